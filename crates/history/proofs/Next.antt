-- One call more: the station still holds what its history says, and the history is lawful.
use Rattle.std.proofs.Common.{◌≡◌, ℕ, ◌<◌, false, cond, eqb, leb, List, [], ◌∷◌, length, Some, None, Ok, Err, filter, Option, Result, sym, refl, ap, ◌∙◌, subst, arith, Bor}
use Rattle.std.proofs.lemmas.Bool.{leb-false}
use Rattle.std.specs.List.{ContainsAt as Has}
use Rattle.faults.specs.declared.RingFault.TheVariants.{NotAbove, AllOpen}
use Rattle.faults.specs.declared.BookFault.{BookFault}
use Rattle.faults.specs.declared.BookFault.TheVariants.{Spent, Full}
use Rattle.faults.specs.declared.StationFault.{StationFault}
use Rattle.faults.specs.declared.StationFault.TheVariants.{Wire, Ring as OfRing, Group, Batch, Token, Book}
use Rattle.group.specs.Model.{Model}
use Rattle.messages.specs.Messages.{epoch_in}
use Rattle.messages.proofs.Ruled.{passes}
use Rattle.token.specs.Tokens.{key_of}
use Rattle.ring.specs.declared.Ring.{Ring}
use Rattle.ring.specs.Places.{Place, places, key_in, full, admits}
use Rattle.book.specs.Meaning.{Pair, Meaning, In, size_of, Alike, Marked}
use Rattle.station.specs.Answers.{opening, published, places_after, latest_after}
use Rattle.station.specs.Issuing.{issue_answer}
use Rattle.station.specs.Redeeming.{redeemable, Redeems, Closes, closed_places}
use Rattle.history.specs.declared.calls.Call.TheVariants.{Count, Open, Close, Issue, Redeem}
use Rattle.history.specs.Events.{Told, done, number, bytes, refused, Event, event, Deed, deed}
use Rattle.history.specs.History.{pair_of, highest_after, highest, number_after, open_number, admission, pairs_after, spent, key_told, key_after, open_key, counted}
use Rattle.history.specs.Law.{bytes_told, drop_told, Judged, RedeemTells, Right}
use Rattle.history.specs.Told.{number_told, done_told}
use Rattle.history.specs.Kept.{Tied, Kept}
use Rattle.history.proofs.Worth.{worth_in}
use Rattle.history.proofs.Deeds.{opening_ok}
use Rattle.history.proofs.Places.{full_count}
use Rattle.history.proofs.Keeping.{sized, tied_alike, tied_opens, tied_closes, dropped_is, tied_accepts}

module _ {E S K : Type 0} (m : Model E S K) (capacity : ℕ) where
  -- what is tied after a deed
  abbrev TiedBy : List Event → Deed → List (Place K) → ℕ → Meaning → Type 0
  TiedBy h d ps latest b =
      Tied capacity (λ e. key_after m d e (open_key m h e)) (number_after d (open_number h)) (highest_after d (highest h)) (pairs_after d (spent h)) ps latest b

  module _ (h : List Event) (r : Ring K) (b : Meaning) (k : Kept m capacity h (places r) r.latest b) where
    find_is : key_in (places r) ≡ open_key m h
    find_is = λ i e. k.tied.keys e i

    admits_is : (e : ℕ) → admits r e ≡ admission h e
    admits_is e =
        let filled : full (places r) ≡ leb 4 (open_number h) = full_count (places r) ∙ ap (λ (n : ℕ). leb 4 n) k.tied.number_is in
        ap (λ (n : ℕ). cond (leb e n) (Err NotAbove) (cond (full (places r)) (Err AllOpen) (Ok tt))) k.tied.high_is
        ∙ ap (λ c. cond (leb e (highest h)) (Err NotAbove) (cond c (Err AllOpen) (Ok tt))) filled

    admits_ok : (e : ℕ) → admits r e ≡ Ok tt → (r.latest < e) × (full (places r) ≡ false)
    admits_ok e p =
        let q = (passes ((leb e r.latest, NotAbove) ∷ (full (places r), AllOpen) ∷ []) (Ok tt) tt p).0 in
        (leb-false e r.latest q.0, q.1.0)

    pub next_count : (o : Told) → o ≡ number (size_of b) → Kept m capacity (event Count o ∷ h) (places r) r.latest b
    next_count o e = record { tied = k.tied; law = (e ∙ ap number (sized capacity k.tied), k.law) }

    -- ---- issue
    issue_tied : (scratch outlet : ℕ) (q n : Bor (List ℕ)) (o : Told) → TiedBy h (deed (Issue scratch q n outlet) o) (places r) r.latest b
    issue_tied scratch outlet q n done = k.tied
    issue_tied scratch outlet q n (number x) = k.tied
    issue_tied scratch outlet q n (bytes x) = k.tied
    issue_tied scratch outlet q n (refused x) = k.tied

    pub next_issue : (scratch outlet : ℕ) (q n : Bor (List ℕ)) (o : Told) → o ≡ bytes_told (issue_answer m scratch (key_in (places r)) q.now n.now outlet) →
        Kept m capacity (event (Issue scratch q n outlet) o ∷ h) (places r) r.latest b
    next_issue scratch outlet q n o e = record {
      tied = issue_tied scratch outlet q n o;
      law = (e ∙ ap (λ f. bytes_told (issue_answer m scratch f q.now n.now outlet)) find_is, k.law);
    }

    -- ---- open
    open_tied : (scratch epoch outlet : ℕ) (code : Bor (List ℕ)) (x : Result K StationFault) → opening m scratch (admits r epoch) code.now outlet ≡ x →
        TiedBy h (deed (Open scratch epoch code outlet) (bytes_told (published m x))) (places_after x epoch (places r)) (latest_after x epoch r.latest) b
    open_tied scratch epoch outlet code (Ok j) e =
        let f = opening_ok m capacity scratch outlet (admits r epoch) code.now j e in
        let a = admits_ok epoch f.1 in
        tied_opens capacity k.tied epoch j (key_told m (key_of m code.now)) (ap (key_told m) f.0) (subst (λ (n : ℕ). n < epoch) k.tied.high_is a.0) a.1
    open_tied scratch epoch outlet code (Err f) e = k.tied

    pub next_open : (scratch epoch outlet : ℕ) (code : Bor (List ℕ)) (o : Told) (r' : Ring K) → let x = opening m scratch (admits r epoch) code.now outlet in
        o ≡ bytes_told (published m x) → places r' ≡ places_after x epoch (places r) → r'.latest ≡ latest_after x epoch r.latest →
        Kept m capacity (event (Open scratch epoch code outlet) o ∷ h) (places r') r'.latest b
    next_open scratch epoch outlet code o r' e p l =
        let x = opening m scratch (admits r epoch) code.now outlet in
        let t = open_tied scratch epoch outlet code x refl in
        record {
          tied =
              subst (λ y. TiedBy h (deed (Open scratch epoch code outlet) y) (places r') r'.latest b) (sym e)
              (subst (λ (n : ℕ). TiedBy h (deed (Open scratch epoch code outlet) (bytes_told (published m x))) (places r') n b) (sym l)
              (subst (λ ps. TiedBy h (deed (Open scratch epoch code outlet) (bytes_told (published m x))) ps (latest_after x epoch r.latest) b) (sym p) t));
          law = (e ∙ ap (λ a. bytes_told (published m (opening m scratch a code.now outlet))) (admits_is epoch), k.law);
        }

    -- ---- close
    close_kept : (epoch : ℕ) (f : Option K) (x : Result ℕ StationFault) (b' : Meaning) → key_in (places r) epoch ≡ f → Closes f epoch b x b' →
        Right m capacity h (Close epoch) (number_told x) × TiedBy h (deed (Close epoch) (number_told x)) (closed_places f epoch (places r)) r.latest b'
    close_kept epoch (Some j) (Ok n) b' e d =
        let found : open_key m h epoch ≡ Some j = sym (k.tied.keys epoch) ∙ e in (
          ap number (dropped_is capacity k.tied epoch n j found b' d) ∙ sym (ap (λ f. drop_told f (length (filter (λ p. eqb p.0 epoch) (spent h)))) found),
          tied_closes capacity k.tied epoch n j found b' d,
        )
    close_kept epoch (Some j) (Err f) b' e d = absurd d
    close_kept epoch None x b' e d =
        let gone : open_key m h epoch ≡ None = sym (k.tied.keys epoch) ∙ e in
        subst (λ y. Right m capacity h (Close epoch) (number_told y) × TiedBy h (deed (Close epoch) (number_told y)) (places r) r.latest b') (sym d.0) (
          sym (ap (λ f. drop_told f (length (filter (λ p. eqb p.0 epoch) (spent h)))) gone),
          subst (Tied capacity (open_key m h) (open_number h) (highest h) (spent h) (places r) r.latest) (sym d.1) k.tied,
        )

    pub next_close : (epoch : ℕ) (x : Result ℕ StationFault) (o : Told) (r' : Ring K) (b' : Meaning) → o ≡ number_told x → Closes (key_in (places r) epoch) epoch b x b' →
        places r' ≡ closed_places (key_in (places r) epoch) epoch (places r) → r'.latest ≡ r.latest → Kept m capacity (event (Close epoch) o ∷ h) (places r') r'.latest b'
    next_close epoch x o r' b' e d p l =
        let both = close_kept epoch (key_in (places r) epoch) x b' refl d in
        record {
          tied =
              subst (λ y. TiedBy h (deed (Close epoch) y) (places r') r'.latest b') (sym e)
              (subst (λ (n : ℕ). TiedBy h (deed (Close epoch) (number_told x)) (places r') n b') (sym l)
              (subst (λ ps. TiedBy h (deed (Close epoch) (number_told x)) ps r.latest b') (sym p) both.1));
          law = (subst (Right m capacity h (Close epoch)) (sym e) both.0, k.law);
        }

    -- ---- redeem
    counted_in : (p : Pair) → Has (counted m h) p → In b p
    counted_in p s = (k.tied.these p).1 s

    judged_done : (p : Pair) (b' : Meaning) → Marked b p (Ok tt) b' → Judged capacity (counted m h) p done
    judged_done p b' d = record {
      again = λ s. absurd (d.0 (counted_in p s));
      none_left = λ n full-up. let a = sized capacity k.tied in let c = k.tied.room in let less = d.1 in absurd (omega arith);
      fresh = λ n free. refl;
    }

    judged_fault : (p : Pair) (f : BookFault) (b' : Meaning) → Marked b p (Err f) b' → Judged capacity (counted m h) p (refused (Book f)) × Alike b b'
    judged_fault p Spent b' d = (
      record { again = λ s. refl; none_left = λ n full-up. absurd (n ((k.tied.these p).0 d.0)); fresh = λ n free. absurd (n ((k.tied.these p).0 d.0)) },
      d.1,
    )
    judged_fault p Full b' d = (
      record {
        again = λ s. absurd (d.0 (counted_in p s));
        none_left = λ n full-up. refl;
        fresh = λ n free. let a = sized capacity k.tied in let c = k.tied.room in let all = d.1 in absurd (omega arith);
      },
      d.2,
    )

    redeem_kept : (scratch : ℕ) (t : Bor (List ℕ)) (w : Result Pair StationFault) (x : Result (Unit {0}) StationFault) (b' : Meaning) →
        redeemable m scratch (key_in (places r)) t.now ≡ w → Redeems w b x b' →
        RedeemTells capacity (counted m h) w (done_told x) × TiedBy h (deed (Redeem scratch t) (done_told x)) (places r) r.latest b'
    redeem_kept scratch t (Err f) x b' e d =
        subst (λ y. (done_told y ≡ refused f) × TiedBy h (deed (Redeem scratch t) (done_told y)) (places r) r.latest b') (sym d.0)
        (refl, subst (Tied capacity (open_key m h) (open_number h) (highest h) (spent h) (places r) r.latest) (sym d.1) k.tied)
    redeem_kept scratch t (Ok p) (Ok u) b' e d =
        let f = worth_in m (key_in (places r)) scratch t.now p e in
        let marked : Marked b (pair_of t.now) (Ok tt) b' = subst (λ y. Marked b y (Ok tt) b') f.3 d in
        (judged_done p b' d, tied_accepts capacity k.tied (pair_of t.now) f.0 (sym (k.tied.keys (epoch_in t.now)) ∙ f.1) b' marked)
    redeem_kept scratch t (Ok p) (Err (Book f)) b' e d = let j = judged_fault p f b' d in (j.0, tied_alike capacity k.tied b' j.1)
    redeem_kept scratch t (Ok p) (Err (Wire f)) b' e d = absurd d
    redeem_kept scratch t (Ok p) (Err (OfRing f)) b' e d = absurd d
    redeem_kept scratch t (Ok p) (Err (Group f)) b' e d = absurd d
    redeem_kept scratch t (Ok p) (Err (Batch f)) b' e d = absurd d
    redeem_kept scratch t (Ok p) (Err (Token f)) b' e d = absurd d

    pub next_redeem : (scratch : ℕ) (t : Bor (List ℕ)) (x : Result (Unit {0}) StationFault) (o : Told) (r' : Ring K) (b' : Meaning) → o ≡ done_told x →
        Redeems (redeemable m scratch (key_in (places r)) t.now) b x b' → r' ≡ r → Kept m capacity (event (Redeem scratch t) o ∷ h) (places r') r'.latest b'
    next_redeem scratch t x o r' b' e d s =
        let both = redeem_kept scratch t (redeemable m scratch (key_in (places r)) t.now) x b' refl d in
        record {
          tied =
              subst (λ y. TiedBy h (deed (Redeem scratch t) y) (places r') r'.latest b') (sym e)
              (subst (λ y. TiedBy h (deed (Redeem scratch t) (done_told x)) (places y) y.latest b') (sym s) both.1);
          law = (
            subst (λ f. RedeemTells capacity (counted m h) (redeemable m scratch f t.now) o) find_is
                (subst (RedeemTells capacity (counted m h) (redeemable m scratch (key_in (places r)) t.now)) (sym e) both.0),
            k.law,
          );
        }
