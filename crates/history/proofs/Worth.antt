-- A redeem finds nothing wrong with a token exactly where it is good under the key of its epoch.
use Rattle.std.proofs.Common.{◌≡◌, ℕ, ◌≤◌, Bool, true, false, not, eqb, ltb, List, [], ◌∷◌, length, take, Some, Ok, Option, Result, sym, ap, ◌∙◌}
use Rattle.std.proofs.lemmas.Bool.{eq-eqb, ne_eqb, le-ltb, not-false, not_from_true}
use Rattle.std.specs.Option.{ok_or}
use Rattle.faults.specs.declared.WireFault.TheVariants.{ShortScratch, WrongType, WrongLength}
use Rattle.faults.specs.declared.RingFault.TheVariants.{NotOpen}
use Rattle.faults.specs.declared.GroupFault.TheVariants.{NullInput}
use Rattle.faults.specs.declared.TokenFault.TheVariants.{OtherKey, OtherAuthenticator}
use Rattle.faults.specs.declared.StationFault.{StationFault}
use Rattle.faults.specs.declared.StationFault.TheVariants.{Wire, Group, Token}
use Rattle.group.specs.Model.{Model}
use Rattle.group.specs.Elements.{null}
use Rattle.group.proofs.Logs.{log_null}
use Rattle.group.proofs.Laws.{log_zero}
use Rattle.hashing.specs.Hashing.{hash_to_group, key_id}
use Rattle.voprf.specs.Blinding.{public_key, direct}
use Rattle.messages.specs.Answers.{ruled}
use Rattle.messages.specs.Messages.{Parts, token_in, read_token, epoch_in}
use Rattle.messages.proofs.Ruled.{passes, passed, passed_equal, equal_passes, same_answer}
use Rattle.token.specs.Tokens.{then, is_null, Good}
use Rattle.book.specs.Meaning.{Pair}
use Rattle.station.specs.Answers.{of_wire, of_ring}
use Rattle.station.specs.Redeeming.{same, authentic, redeemable}
use Rattle.station.proofs.Sameness.{same_true, same_refl}
use Rattle.history.specs.History.{pair_of}
use Rattle.history.proofs.Steps.{false_true, then_ok, wire_ok, ring_ok, some_ok}

pub read_is : (bytes : List ℕ) (t : Parts) → read_token bytes ≡ Ok t → token_in bytes ≡ t
unfolding read_token
read_is bytes t e = same_answer (token_in bytes) t (passes ((not (eqb (length bytes) 132), WrongLength) ∷ []) (Ok (token_in bytes)) t e).1

module _ {E S K : Type 0} (m : Model E S K) where
  pub not_null : (p : E) → is_null m p ≡ false → p ≡ null m → ⊥
  not_null p f e = false_true (sym f ∙ eq-eqb (m.log p) 0 (ap m.log e ∙ log_null m))

  pub null_not : (p : E) → (p ≡ null m → ⊥) → is_null m p ≡ false
  null_not p ne = ne_eqb (m.log p) 0 (λ z. ne (log_zero m p z))

  module _ (k : K) (id authenticator input : List ℕ) where
    abbrev checks : List (Bool × StationFault)
    checks =
        (not (same id (key_id m (public_key m k))), Token OtherKey)
        ∷ (is_null m (hash_to_group m input), Group NullInput)
        ∷ (not (same authenticator (direct m k input)), Token OtherAuthenticator)
        ∷ []

    authentic_in : authentic m k id authenticator input ≡ Ok tt →
        (id ≡ key_id m (public_key m k)) × (hash_to_group m input ≡ null m → ⊥) × (authenticator ≡ direct m k input)
    unfolding authentic
    authentic_in e =
        let p = (passes checks (Ok tt) tt e).0 in (
          same_true id (key_id m (public_key m k)) (not-false (same id (key_id m (public_key m k))) p.0),
          not_null (hash_to_group m input) p.1.0,
          same_true authenticator (direct m k input) (not-false (same authenticator (direct m k input)) p.1.1.0),
        )

    authentic_out : id ≡ key_id m (public_key m k) → (hash_to_group m input ≡ null m → ⊥) → authenticator ≡ direct m k input →
        authentic m k id authenticator input ≡ Ok tt
    unfolding authentic
    authentic_out i n a =
        let first : same id (key_id m (public_key m k)) ≡ true = ap (λ x. same x (key_id m (public_key m k))) i ∙ same_refl (key_id m (public_key m k)) in
        let last : same authenticator (direct m k input) ≡ true = ap (λ x. same x (direct m k input)) a ∙ same_refl (direct m k input) in
        passed checks (Ok tt) (not_from_true (same id (key_id m (public_key m k))) first, (null_not (hash_to_group m input) n, (not_from_true (same authenticator (direct m k input)) last, tt)))

  module _ (key : ℕ → Option K) (scratch : ℕ) (bytes : List ℕ) where
    proven : Parts → K → Result Pair StationFault
    proven t k = then (authentic m k t.key_id t.authenticator (take 100 bytes)) (λ _. Ok (t.epoch, t.nonce))

    typed : Parts → Result Pair StationFault
    typed t = ruled ((not (eqb t.kind m.kind), Wire WrongType) ∷ []) (then (of_ring (ok_or (key t.epoch) NotOpen)) (proven t))

    -- nothing was wrong with it
    pub worth_in : (p : Pair) → redeemable m scratch key bytes ≡ Ok p →
        (k : K) × (key (epoch_in bytes) ≡ Some k) × Good m k (epoch_in bytes) bytes × (p ≡ pair_of bytes)
    unfolding redeemable typed proven
    worth_in p e =
        let a = (passes ((ltb scratch 1024, Wire ShortScratch) ∷ []) (then (of_wire (read_token bytes)) typed) p e).1 in
        let b = then_ok (of_wire (read_token bytes)) typed p a in
        let t = b.0 in
        let reads = wire_ok (read_token bytes) t b.1 in
        let is = read_is bytes t reads in
        let c = passes ((not (eqb t.kind m.kind), Wire WrongType) ∷ []) (then (of_ring (ok_or (key t.epoch) NotOpen)) (proven t)) p b.2 in
        let d = then_ok (of_ring (ok_or (key t.epoch) NotOpen)) (proven t) p c.1 in
        let k = d.0 in
        let found = some_ok (key t.epoch) NotOpen k (ring_ok (ok_or (key t.epoch) NotOpen) k d.1) in
        let f = then_ok (authentic m k t.key_id t.authenticator (take 100 bytes)) (λ _. Ok (t.epoch, t.nonce)) p d.2 in
        let facts = authentic_in k t.key_id t.authenticator (take 100 bytes) f.1 in
        let same_epoch : t.epoch ≡ epoch_in bytes = sym (ap (λ (x : Parts). x.epoch) is) in (
          k,
          ap key (sym same_epoch) ∙ found,
          record {
            parts = t;
            reads = reads;
            kind_fits = passed_equal t.kind m.kind c.0.0;
            epoch_fits = same_epoch;
            key_fits = facts.0;
            mapped = facts.1;
            authentic = facts.2;
          },
          sym (same_answer (t.epoch, t.nonce) p f.2) ∙ sym (ap (λ (x : Parts). (x.epoch, x.nonce)) is),
        )

    pub worth_out : (k : K) → 1024 ≤ scratch → key (epoch_in bytes) ≡ Some k → Good m k (epoch_in bytes) bytes → redeemable m scratch key bytes ≡ Ok (pair_of bytes)
    unfolding redeemable typed proven
    worth_out k room found good =
        let t = good.parts in
        let is = read_is bytes t good.reads in
        passed ((ltb scratch 1024, Wire ShortScratch) ∷ []) (then (of_wire (read_token bytes)) typed) (le-ltb scratch 1024 room, tt)
        ∙ ap (λ r. then (of_wire r) typed) good.reads
        ∙ passed ((not (eqb t.kind m.kind), Wire WrongType) ∷ []) (then (of_ring (ok_or (key t.epoch) NotOpen)) (proven t)) (equal_passes t.kind m.kind good.kind_fits, tt)
        ∙ ap (λ r. then (of_ring (ok_or r NotOpen)) (proven t)) (ap key good.epoch_fits ∙ found)
        ∙ ap (λ r. then r (λ _. Ok (t.epoch, t.nonce))) (authentic_out k t.key_id t.authenticator (take 100 bytes) good.key_fits good.mapped good.authentic)
        ∙ sym (ap (λ (x : Parts). Ok (x.epoch, x.nonce)) is)
