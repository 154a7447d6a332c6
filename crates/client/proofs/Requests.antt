-- What `blind` answers, from what its steps answered.
use Rattle.std.proofs.Common.{◌≡◌, ℕ, ◌*◌, ◌≤◌, List, [], length, Ok, Err, Result, sym, refl, ap, ◌∙◌, arith, ◌<◌}
use Rattle.std.proofs.lemmas.Nat.{mul-le}
use Rattle.std.proofs.lemmas.Bool.Decides.{nat_tests}
use Rattle.std.proofs.lemmas.Bool.{lt-ltb, le-ltb}
use Rattle.faults.specs.declared.WireFault.{WireFault}
use Rattle.faults.specs.declared.WireFault.TheVariants.{ShortScratch}
use Rattle.faults.specs.declared.BatchFault.{BatchFault}
use Rattle.faults.specs.declared.BatchFault.TheVariants.{Wire}
use Rattle.group.specs.Model.{Model}
use Rattle.hashing.specs.Hashing.{key_id}
use Rattle.messages.specs.Messages.{Batch, request_bytes, request_length, writes_request}
use Rattle.token.specs.Tokens.{then}
use Rattle.client.specs.Batches.{sent_code, walked}
use Rattle.client.specs.Blinding.{vetted, blind_answer}

pub never : (f : WireFault) (n : ℕ) → ◌≡◌ {A = Result ℕ WireFault} (Err f) (Ok n) → ⊥
never f n e = let z : ◌≡◌ {A = ℕ} 0 1 = cc in omega arith

-- a request of 1 to 16 codes that fits its outlet is written
pub writes : {E S K : Type 0} (m : Model E S K) (b : Batch) (room : ℕ) → 1 ≤ b.count → b.count ≤ 16 → length b.items ≡ b.count * m.element_width →
    request_length m b.count ≤ room → writes_request m b room ≡ Ok (request_length m b.count)
unfolding writes_request
writes m b room some few whole fits = grind (arith, nat_tests)

-- the codes of 1 to 16 items fit a row of 128 bytes
pub row_fits : (n w v : ℕ) → n ≤ 16 → w ≤ 8 → v ≡ w → n * v ≤ 128
row_fits n w v few narrow e = let most = mul-le n v 16 8 few (omega arith) in omega arith

-- the key id in hand is that of the public key
pub walked_under : {E S K : Type 0} (m : Model E S K) (epoch i n : ℕ) (seeds blinds id : List ℕ) (pk : E) → id ≡ key_id m pk →
    walked m (sent_code m) epoch (key_id m pk) i n seeds blinds [] [] ≡ walked m (sent_code m) epoch id i n seeds blinds [] []
walked_under m epoch i n seeds blinds id pk e = ap (λ (x : List ℕ). walked m (sent_code m) epoch x i n seeds blinds [] []) (sym e)

module _ {E S K : Type 0} (m : Model E S K) (scratch epoch : ℕ) (code seeds blinds : List ℕ) (outlet : ℕ) where
  onward : E × ℕ → Result (List ℕ) BatchFault
  onward known =
      then (walked m (sent_code m) epoch (key_id m known.0) 0 known.1 seeds blinds [] []) (λ codes.
      Ok (request_bytes m (record { epoch = epoch; count = known.1; items = codes })))

  -- the scratch is tested first, and its length then tells no more
  pub too_short : scratch < 1024 → blind_answer m scratch epoch code seeds blinds outlet ≡ Err (Wire ShortScratch)
  unfolding blind_answer vetted
  too_short short = rw (lt-ltb scratch 1024 short) refl

  pub enough : 1024 ≤ scratch → vetted m scratch epoch code seeds blinds outlet ≡ vetted m 1024 epoch code seeds blinds outlet
  unfolding vetted
  enough room = rw (le-ltb scratch 1024 room) refl

  pub vet_stops : (f : BatchFault) → Err f ≡ vetted m scratch epoch code seeds blinds outlet → blind_answer m scratch epoch code seeds blinds outlet ≡ Err f
  unfolding blind_answer onward
  vet_stops f e = ap (λ r. then r onward) (sym e)

  pub item_stops : (known : E × ℕ) (f : BatchFault) → Ok known ≡ vetted m scratch epoch code seeds blinds outlet →
      walked m (sent_code m) epoch (key_id m known.0) 0 known.1 seeds blinds [] [] ≡ Err f → blind_answer m scratch epoch code seeds blinds outlet ≡ Err f
  unfolding blind_answer onward
  item_stops known f e s = ap (λ r. then r onward) (sym e) ∙ ap (λ r. then r (λ codes. Ok (request_bytes m (record { epoch = epoch; count = known.1; items = codes })))) s

  pub goes : (known : E × ℕ) (codes : List ℕ) → Ok known ≡ vetted m scratch epoch code seeds blinds outlet →
      walked m (sent_code m) epoch (key_id m known.0) 0 known.1 seeds blinds [] [] ≡ Ok codes →
      blind_answer m scratch epoch code seeds blinds outlet ≡ Ok (request_bytes m (record { epoch = epoch; count = known.1; items = codes }))
  unfolding blind_answer onward
  goes known codes e s = ap (λ r. then r onward) (sym e) ∙ ap (λ r. then r (λ codes. Ok (request_bytes m (record { epoch = epoch; count = known.1; items = codes })))) s
