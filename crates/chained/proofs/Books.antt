-- What a call on the rows leaves of a book. Assumes nothing.
use Rattle.std.proofs.Common.{◌≡◌, ℕ, ◌+◌, ◌-◌, ◌<◌, ◌≤◌, not, eqb, ltb, List, length, Ok, Err, Result, sym, refl, ap, ◌∙◌, subst, inl, inr, ⊎_elim, arith}
use Rattle.std.proofs.lemmas.List.FromFn.{length-map-range_with_len}
use Rattle.std.proofs.lemmas.List.Filters.{length-filter_both}
use Rattle.book.specs.Meaning.{Pair, Meaning, Marked}
use Rattle.book.proofs.Facts.{becomes_same}
use Rattle.faults.specs.declared.BookFault.{BookFault}
use Rattle.faults.specs.declared.BookFault.TheVariants.{Spent, Full}
use Rattle.std.specs.List.{ContainsAt as Has}
use Rattle.chains.specs.Calls.{Marks}
use Rattle.chains.specs.Tables.{Table, cleared, marked, dropped}
use Rattle.chains.specs.Chains.{pairs, Sound}
use Rattle.chains.specs.Meant.{length_pairs}
use Rattle.chains.proofs.Meanings.{found, marked_chains, dropped_chains}
use Rattle.std.proofs.lemmas.Bool.{cases_lt, lt-ltb, le-ltb, cond-true, cond-false}
use Rattle.faults.specs.declared.WireFault.{WireFault}
use Rattle.faults.specs.declared.WireFault.TheVariants.{WrongLength}
use Rattle.book.specs.Words.{Bytes}
use Rattle.book.specs.Rooms.{room}
use Rattle.chained.specs.Layout.{room_in, RoomIn, table_of, image, later}
use Rattle.chained.specs.Facts.{room_fits, places_is}
use Rattle.chained.specs.Laws.{marked_image}
use Rattle.chained.proofs.Images.{one_image}

module _ (cap cap' : ℕ) (m m' : List ℕ) (t : Table) (room : RoomIn (length m') cap') (bytes : Bytes m')
    (is : table_of cap' m' ≡ t) (long : length t.entries ≡ length (table_of cap m).entries) where
  pub after_capacity : cap' ≡ cap
  after_capacity = sym (places_is cap' m') ∙ ap (λ (u : Table). length u.entries) is ∙ long ∙ places_is cap m

  pub after_room : RoomIn (length m') cap
  after_room = subst (RoomIn (length m')) after_capacity room

  pub after_table : table_of cap m' ≡ t
  after_table = ap (λ c. table_of c m') (sym after_capacity) ∙ is

  pub after_image : later m' cap' ≡ later m cap → m' ≡ image t (later m cap)
  after_image l =
      one_image cap m' (room_fits (length m') cap after_room).2 bytes
      ∙ ap (λ u. image u (later m' cap)) after_table
      ∙ ap (image t) (ap (later m') (sym after_capacity) ∙ l)

pub cleared_long : (n : ℕ) → length (cleared n).entries ≡ n
unfolding cleared
cleared_long n = length-map-range_with_len _ 1 n

-- drop answers how many pairs it took out
pub dropped_size : (e : ℕ) (t u : Table) (r : ℕ) → Sound t → u ≡ dropped e t → r ≡ t.size - u.size → r + length (pairs u) ≡ length (pairs t)
dropped_size e t u r s is count =
    let d = dropped_chains e t s in
    let su : Sound u = subst Sound (sym is) d.sound in
    let both = length-filter_both (λ p. eqb p.0 e) (λ p. not (eqb p.0 e)) (λ _. refl) (pairs t) in
    omega (arith, count, s.6.0, su.6.0, length_pairs t, length_pairs u, both, ap length (ap pairs is ∙ d.pairs_left))

-- the capacity that memory is known to have is what fits it
pub room_of : (len cap : ℕ) → room_in len ≡ Ok cap → RoomIn len cap
room_of len cap is =
    ⊎_elim
    (λ (short : len < 168).
    let none : room_in len ≡ Err WrongLength = cond-true (ltb len 168) (Err WrongLength) (Ok (room 132 36 len)) (lt-ltb len 168 short) in
    let z : ◌≡◌ {A = ℕ} 0 1 = cc in
    absurd (omega arith))
    (λ (long : 168 ≤ len).
    let some : room_in len ≡ Ok (room 132 36 len) = cond-false (ltb len 168) (Err WrongLength) (Ok (room 132 36 len)) (le-ltb len 168 long) in
    (long, same (Ok (room 132 36 len)) cap (room 132 36 len) (sym some ∙ is) refl))
    (cases_lt len 168)
  where
    same : (r : Result ℕ WireFault) (a b : ℕ) → r ≡ Ok a → r ≡ Ok b → a ≡ b
    same r a b p q = cc

-- ---- mark
pub mark_sound : (t : Table) (p : Pair) (r : Result (Unit {0}) BookFault) (u : Table) → Sound t → length p.1 ≡ 32 → Marks t p r u → Sound u × (length u.entries ≡ length t.entries)
mark_sound t p (Ok x) u s nonce m =
    let d = marked_chains t p s nonce m.0 m.1 in
    (subst Sound (sym m.2) d.sound, ap (λ (v : Table). length v.entries) m.2 ∙ d.places)
mark_sound t p (Err Spent) u s nonce m = (subst Sound (sym m.1) s, ap (λ (v : Table). length v.entries) m.1)
mark_sound t p (Err Full) u s nonce m = (subst Sound (sym m.2) s, ap (λ (v : Table). length v.entries) m.2)

pub mark_means : (before after : Meaning) (t u : Table) (p : Pair) (r : Result (Unit {0}) BookFault) → Sound t → length p.1 ≡ 32 → Marks t p r u
    → before.pairs ≡ pairs t → before.capacity ≡ length t.entries → after.pairs ≡ pairs u → after.capacity ≡ before.capacity → Marked before p r after
mark_means before after t u p (Ok x) s nonce m b bc a ac =
    let d = marked_chains t p s nonce m.0 m.1 in
    let after_is : after.pairs ≡ pairs (marked t p) = a ∙ ap pairs m.2 in (
      (λ h. m.0 ((found t p s).1 (subst (λ w. Has w p) b h))),
      omega (arith, m.1, bc, ap length b, length_pairs t, s.6.0),
      record {
        these = λ q. (
          (λ h. ⊎_elim (λ (k : Has (pairs t) q). inl (subst (λ w. Has w q) (sym b) k)) (λ (k : q ≡ p). inr k) ((d.added q).0 (subst (λ w. Has w q) after_is h))),
          λ h. subst (λ w. Has w q) (sym after_is) ((d.added q).1 (⊎_elim (λ (k : Has before.pairs q). inl (subst (λ w. Has w q) b k)) (λ (k : q ≡ p). inr k) h)),
        );
        room = ac;
      },
    )
mark_means before after t u p (Err Spent) s nonce m b bc a ac =
    (subst (λ w. Has w p) (sym b) ((found t p s).0 m.0), becomes_same before after (a ∙ ap pairs m.1 ∙ sym b) ac)
mark_means before after t u p (Err Full) s nonce m b bc a ac = (
  (λ h. m.0 ((found t p s).1 (subst (λ w. Has w p) b h))),
  omega (arith, m.1, bc, ap length b, length_pairs t, s.6.0, s.6.1),
  becomes_same before after (a ∙ ap pairs m.2 ∙ sym b) ac,
)

pub mark_image : (cap : ℕ) (m m' : List ℕ) (p : Pair) (r : Result (Unit {0}) BookFault) (u : Table) → m ≡ image (table_of cap m) (later m cap) → m' ≡ image u (later m cap) → Marks (table_of cap m) p r u → m' ≡ marked_image r cap m p
mark_image cap m m' p (Ok x) u was is e = is ∙ ap (λ v. image v (later m cap)) e.2
mark_image cap m m' p (Err Spent) u was is e = is ∙ ap (λ v. image v (later m cap)) e.1 ∙ sym was
mark_image cap m m' p (Err Full) u was is e = is ∙ ap (λ v. image v (later m cap)) e.2 ∙ sym was
