-- The law over every run, for every kind of group and of book: what holds of a whole history of calls and answers,
-- the latest event first.
use Rattle.std.specs.Prelude.{◌≡◌, ℕ, ◌*◌, ◌/◌, ◌<◌, ◌≤◌, List, [], ◌∷◌, ◌++◌, length, take, drop, Some, None, Ok, Err, filter, Option, Result, nat_eq}
use Rattle.std.specs.List.{ContainsAt as Has, AllByRecursion}
use Rattle.faults.specs.declared.RingFault.TheVariants.{NotOpen}
use Rattle.faults.specs.declared.BookFault.TheVariants.{Spent, Full}
use Rattle.faults.specs.declared.StationFault.{StationFault}
use Rattle.faults.specs.declared.StationFault.TheVariants.{Ring, Book}
use Rattle.group.specs.Model.{Model}
use Rattle.hashing.specs.Hashing.{authenticator}
use Rattle.voprf.specs.Blinding.{public_key, blinded, unblinded}
use Rattle.messages.specs.Messages.{epoch_in, count_in, code_in}
use Rattle.token.specs.Tokens.{Good}
use Rattle.book.specs.Meaning.{Pair, Exactly}
use Rattle.client.specs.Blinding.{blind_answer}
use Rattle.client.specs.Finishing.{finish_answer}
use Rattle.client.specs.Honest.{GoodTokens}
use Rattle.station.specs.Answers.{opening, published}
use Rattle.station.specs.Issuing.{issue_answer}
use Rattle.station.specs.Redeeming.{redeemable}
use Rattle.history.specs.declared.calls.Call.{Call}
use Rattle.history.specs.declared.calls.Call.TheVariants.{Count, Open, Close, Issue, Redeem}
use Rattle.history.specs.Events.{Told, done, number, bytes, refused, Event, event, issues, did}
use Rattle.history.specs.History.{pair_of, admission, spent, Accepted, Issued, open_key, counted}

-- ---- an item that was answered: an element of a request, its answer at the same place in the reply, and the
-- request's epoch
pub record Item (E : Type 0) : Type 0 where
  pub epoch : ℕ
  pub sent : E
  pub got : E

-- bytes that were written, or the fault
abbrev pub bytes_told : Result (List ℕ) StationFault → Told
bytes_told (Ok b) = bytes b
bytes_told (Err f) = refused f

-- how many pairs of an open epoch were dropped
abbrev pub drop_told : {K : Type 0} → Option K → ℕ → Told
drop_told (Some k) n = number n
drop_told None n = refused (Ring NotOpen)

-- what a redeem tells of a pair whose token fits: spent, then full, then done
pub record Judged (places : ℕ) (in_use : List Pair) (p : Pair) (o : Told) : Type 0 where
  pub again : Has in_use p → o ≡ refused (Book Spent)
  pub none_left : (Has in_use p → ⊥) → places ≤ length in_use → o ≡ refused (Book Full)
  pub fresh : (Has in_use p → ⊥) → length in_use < places → o ≡ done

abbrev pub RedeemTells : ℕ → List Pair → Result Pair StationFault → Told → Type 0
RedeemTells places in_use (Ok p) o = Judged places in_use p o
RedeemTells places in_use (Err f) o = o ≡ refused f

module _ {E S K : Type 0} (m : Model E S K) where
  -- item i of a request and of its reply
  abbrev pub ItemOf : List ℕ → List ℕ → Item E → Type 0
  ItemOf q p x =
      (i : ℕ) × (i < count_in q) × (epoch_in q ≡ x.epoch) × (m.element (code_in m q i) ≡ Some x.sent) × (m.element (code_in m p i) ≡ Some x.got)

  abbrev pub Answered : List Event → Item E → Type 0
  Answered h x = (q p : List ℕ) × Issued h q p × ItemOf q p x

  -- an accepted token beside an answered item of its epoch
  pub record Beside (h : List Event) (pair : List ℕ × Item E) : Type 0 where
    pub accepted : Accepted h pair.0
    pub answered : Answered h pair.1
    pub same_epoch : epoch_in pair.0 ≡ pair.1.epoch

  -- blinds, one a pair, that turn each token's input into its item's element
  abbrev pub Turns : List K → List (List ℕ × Item E) → Type 0
  Turns [] [] = Unit {0}
  Turns [] (x ∷ xs) = ⊥
  Turns (r ∷ rs) [] = ⊥
  Turns (r ∷ rs) (x ∷ xs) = (blinded m r (take 100 x.0) ≡ x.1.sent) × Turns rs xs

  -- unblinding each item's answer with its blind gives its token's authenticator
  abbrev pub Unblinds : List K → List (List ℕ × Item E) → Type 0
  Unblinds [] [] = Unit {0}
  Unblinds [] (x ∷ xs) = ⊥
  Unblinds (r ∷ rs) [] = ⊥
  Unblinds (r ∷ rs) (x ∷ xs) = (authenticator m (take 100 x.0) (unblinded m r x.1.got) ≡ take 32 (drop 100 x.0)) × Unblinds rs xs

  -- exactly one list of blinds turns each token's input into its item's element, and unblinding the answers with it
  -- gives those tokens' authenticators
  pub record OneBlinding (xs : List (List ℕ × Item E)) : Type 0 where
    pub blinds : List K
    pub turns : Turns blinds xs
    pub only : (rs : List K) → Turns rs xs → rs ≡ blinds
    pub unblinds : Unblinds blinds xs

  -- Unlinkable: any list of accepted tokens beside answered items of their epochs has one blinding, so what a shop sent fits
  -- every token of the epoch equally well.
  abbrev pub Unlinkable : List Event → Type 0
  Unlinkable h = (xs : List (List ℕ × Item E)) → AllByRecursion (Beside h) xs → OneBlinding xs

  -- ---- bytes that a redeem must accept after what came before: a token, its epoch is open, it is good under the epoch's key,
  -- its pair was never accepted, and a place is free
  pub record Worthy (places : ℕ) (before : List Event) (token : List ℕ) : Type 0 where
    pub key : K
    pub open_epoch : open_key m before (epoch_in token) ≡ Some key
    pub good : Good m key (epoch_in token) token
    pub never : Has (spent before) (pair_of token) → ⊥
    pub place_free : length (counted m before) < places

  -- Given a full scratch, redeem accepts exactly such bytes.
  abbrev pub RedeemsOnce : ℕ → List Event → Type 0
  RedeemsOnce places h =
      (later before : List Event) (scratch : ℕ) (token : _) (o : Told) → h ≡ later ++ (event (Redeem scratch token) o ∷ before) → 1024 ≤ scratch
      → Exactly (o ≡ done) (Worthy places before token.now)

  -- Count always tells the number of accepted tokens whose epoch is open.
  abbrev pub Counts : List Event → Type 0
  Counts h = (later before : List Event) (o : Told) → h ≡ later ++ (event Count o ∷ before) → o ≡ number (length (counted m before))

  -- ---- When issue answers a request that blind wrote for its epoch's public key, finish with that batch, public key, seeds and
  -- blinds accepts the reply, given a scratch and an outlet that are long enough; and its tokens, one an item and each with
  -- the input of that item's seed, are good.
  abbrev pub Finishes : List Event → Type 0
  Finishes h =
      (later before : List Event) (ev : Event) (request reply : List ℕ) → h ≡ later ++ (ev ∷ before) → did ev ≡ issues request reply
      → (key : K) (epoch : ℕ) → open_key m before epoch ≡ Some key → epoch < 65536
      → (seeds blinds : List ℕ) (scratch outlet : ℕ) → blind_answer m scratch epoch (m.code (public_key m key)) seeds blinds outlet ≡ Ok request
      → (full_scratch full_outlet : ℕ) → 1024 ≤ full_scratch → 132 * (length seeds / 64) ≤ full_outlet
      → (tokens : List ℕ)
      × (finish_answer m full_scratch epoch (length seeds / 64) (m.code (public_key m key)) seeds blinds reply full_outlet ≡ Ok tokens)
      × GoodTokens m key epoch seeds (length seeds / 64) tokens

  -- ---- what each call must tell after what came before it: the one answer of its checks, in their order
  abbrev pub Right : ℕ → List Event → Call → Told → Type 0
  Right places before Count o = o ≡ number (length (counted m before))
  Right places before (Open scratch epoch key outlet) o = o ≡ bytes_told (published m (opening m scratch (admission before epoch) key.now outlet))
  Right places before (Close epoch) o = o ≡ drop_told (open_key m before epoch) (length (filter (λ p. nat_eq p.0 epoch) (spent before)))
  Right places before (Issue scratch request nonce outlet) o = o ≡ bytes_told (issue_answer m scratch (open_key m before) request.now nonce.now outlet)
  Right places before (Redeem scratch token) o = RedeemTells places (counted m before) (redeemable m scratch (open_key m before) token.now) o

  abbrev pub AllRight : ℕ → List Event → Type 0
  AllRight places h = (later before : List Event) (ev : Event) → h ≡ later ++ (ev ∷ before) → Right places before ev.call ev.answer

  -- THE LAW, over a whole history
  pub record Lawful (places : ℕ) (h : List Event) : Type 0 where
    pub unlinkable : Unlinkable h
    pub redeems_once : RedeemsOnce places h
    pub counts : Counts h
    pub finishes : Finishes h
    pub all_right : AllRight places h
