-- What the answers of the readers hold, behind their references.
use Rattle.std.specs.Prelude.{ℕ, List, Some, None, Ok, Err, Option, Result}
use Rattle.std.specs.Borrow.{Bor}
use Rattle.faults.specs.declared.WireFault.{WireFault}
use Rattle.messages.specs.Messages.{Batch, Answers, Parts}
use Rattle.messages.specs.declared.Header.{Header}
use Rattle.messages.specs.declared.Request.{Request}
use Rattle.messages.specs.declared.Reply.{Reply}
use Rattle.messages.specs.declared.Token.{Token}

abbrev pub header_seen : Result (Header × Bor (List ℕ)) WireFault → Result (Header × List ℕ) WireFault
header_seen (Ok x) = Ok (x.0, x.1.now)
header_seen (Err f) = Err f

abbrev pub batch : Request → Batch
batch q = record { epoch = q.epoch; count = q.count; items = q.items.now }

abbrev pub request_seen : Result Request WireFault → Result Batch WireFault
request_seen (Ok q) = Ok (batch q)
request_seen (Err f) = Err f

abbrev pub answers : Reply → Answers
answers q = record { epoch = q.epoch; count = q.count; items = q.items.now; challenge = q.challenge.now; response = q.response.now }

abbrev pub reply_seen : Result Reply WireFault → Result Answers WireFault
reply_seen (Ok q) = Ok (answers q)
reply_seen (Err f) = Err f

abbrev pub parts : Token → Parts
parts t = record { kind = t.kind; epoch = t.epoch; nonce = t.nonce; context = t.context.now; key_id = t.key_id.now; authenticator = t.authenticator.now }

abbrev pub token_seen : Result Token WireFault → Result Parts WireFault
token_seen (Ok t) = Ok (parts t)
token_seen (Err f) = Err f

abbrev pub split_seen : Result (Bor (List ℕ) × Bor (List ℕ) × Bor (List ℕ)) WireFault → Result (List ℕ × List ℕ × List ℕ) WireFault
split_seen (Ok x) = Ok (x.0.now, x.1.now, x.2.now)
split_seen (Err f) = Err f

abbrev pub item_seen : Option (Bor (List ℕ)) → Option (List ℕ)
item_seen (Some x) = Some x.now
item_seen None = None
