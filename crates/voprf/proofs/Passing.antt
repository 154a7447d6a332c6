-- What the prover makes passes the check.
use Rattle.std.proofs.Common.{◌≡◌, ℕ, ◌+◌, ◌*◌, ◌≤◌, true, List, [], ◌∷◌, ◌++◌, map, length, take, drop, Ok, Result, sym, refl, ap, ◌∙◌, mul_comm, arith}
use Rattle.std.proofs.lemmas.List.{take_at, drop_at, length-map}
use Rattle.faults.specs.declared.BatchFault.{BatchFault}
use Rattle.scalar.specs.Scalars.{subtracted, multiplied}
use Rattle.group.specs.Model.{Model}
use Rattle.group.specs.Elements.{null, generator, sum, base_multiple, multiple}
use Rattle.group.specs.Theorems.{row}
use Rattle.group.proofs.Laws.{lawful, responds, multiple_null}
use Rattle.group.proofs.Weighing.{row_length, length_quotient}
use Rattle.voprf.specs.Blinding.{public_key, answered}
use Rattle.voprf.specs.Proving.{then, read_item, seed, weight, step, steps, count, composites, challenge, proof_of, proved, rechallenge, ProofsPass}
use Rattle.voprf.proofs.Sums.{composites_whole, same_scalars, judged}

module _ {E S K : Type 0} (m : Model E S K) where
  swap : (s t : S) (x : E) → multiple m s (multiple m t x) ≡ multiple m t (multiple m s x)
  unfolding multiplied
  swap s t x =
      sym ((lawful m).twice s t x)
      ∙ ap (λ (n : ℕ). multiple m (m.scalars.scalar n) x) (mul_comm (m.scalars.number s) (m.scalars.number t))
      ∙ (lawful m).twice t s x

  -- one item more, answered by the key: the second sum stays the key times the first
  stepped : (s : List ℕ) (i : ℕ) (k : K) (p total : E) →
      let key = m.scalars.part k in
      let next = sum m total (multiple m (weight m s i (m.code p) (m.code (answered m k p))) p) in
      step m s i (m.code p) (m.code (answered m k p)) (total, multiple m key total) ≡ Ok (next, multiple m key next)
  unfolding step answered
  stepped s i k p total =
      let key = m.scalars.part k in
      let q = multiple m key p in
      let wt = weight m s i (m.code p) (m.code q) in
      let out : E → E → Result (E × E) BatchFault =
      λ sent got. Ok (sum m total (multiple m wt sent), sum m (multiple m key total) (multiple m wt got)) in
      ap (λ o. then (read_item m i o) (λ sent. then (read_item m i (m.element (m.code q))) (λ got. out sent got))) (m.decoded p)
      ∙ ap (λ o. then (read_item m i o) (λ got. out p got)) (m.decoded q)
      ∙ ap (λ x. Ok (sum m total (multiple m wt p), x))
      (ap (sum m (multiple m key total)) (swap wt key p) ∙ sym ((lawful m).spread key total (multiple m wt p)))

  summed : (s : List ℕ) (k : K) (ps : List E) (i : ℕ) (total : E) →
      (last : E) × (steps m s i (length ps) (row m ps) (row m (map (answered m k) ps)) (total, multiple m (m.scalars.part k) total)
      ≡ Ok (last, multiple m (m.scalars.part k) last))
  unfolding steps
  summed s k [] i total = (total, refl)
  summed s k (p ∷ ps) i total =
      let w = m.element_width in
      let key = m.scalars.part k in
      let q = answered m k p in
      let bs = row m ps in
      let es = row m (map (answered m k) ps) in
      let wt = weight m s i (m.code p) (m.code q) in
      let next = sum m total (multiple m wt p) in
      let ih = summed s k ps (i + 1) next in
      let F : List ℕ → List ℕ → List ℕ → List ℕ → Result (E × E) BatchFault =
      λ a b x y. then (step m s i a b (total, multiple m key total)) (steps m s (i + 1) (length ps) x y) in (
        ih.0,
        ap (λ (a : List ℕ). F a (take w (m.code q ++ es)) (drop w (m.code p ++ bs)) (drop w (m.code q ++ es))) (take_at (m.code p) bs w (m.coded p))
            ∙ ap (λ (b : List ℕ). F (m.code p) b (drop w (m.code p ++ bs)) (drop w (m.code q ++ es))) (take_at (m.code q) es w (m.coded q))
            ∙ ap (λ (x : List ℕ). F (m.code p) (m.code q) x (drop w (m.code q ++ es))) (drop_at (m.code p) bs w (m.coded p))
            ∙ ap (λ (y : List ℕ). F (m.code p) (m.code q) bs y) (drop_at (m.code q) es w (m.coded q))
            ∙ ap (λ r. then r (steps m s (i + 1) (length ps) bs es)) (stepped s i k p total)
            ∙ ih.1,
      )

  rows_whole : (ps qs : List E) → length qs ≡ length ps → length ps ≤ 16 → (pk : E) →
      composites m pk (row m ps) (row m qs) ≡ steps m (seed m pk) 0 (length ps) (row m ps) (row m qs) (null m, null m)
  rows_whole ps qs same few pk =
      let w = m.element_width in
      let some = m.element_some in
      let lp = row_length m ps in
      let lq : length (row m qs) ≡ length (row m ps) = row_length m qs ∙ ap (λ (n : ℕ). n * w) same ∙ sym lp in
      let many : count m (row m ps) ≡ length ps = (length_quotient (length (row m ps)) (length ps) w (omega arith) lp).0 in
      composites_whole m pk (row m ps) (row m qs) (lp ∙ ap (λ (n : ℕ). n * w) (sym many)) lq (let e = many in omega arith)
      ∙ ap (λ (n : ℕ). steps m (seed m pk) 0 n (row m ps) (row m qs) (null m, null m)) many

  -- the composites of a batch that the key answered: the second is the key times the first
  pub composed : (k : K) (pk : E) (ps : List E) → length ps ≤ 16 →
      (total : E) × (composites m pk (row m ps) (row m (map (answered m k) ps)) ≡ Ok (total, multiple m (m.scalars.part k) total))
  composed k pk ps few =
      let key = m.scalars.part k in
      let s = summed (seed m pk) k ps 0 (null m) in (
        s.0,
        rows_whole ps (map (answered m k) ps) (length-map ps (answered m k)) few pk
            ∙ ap (λ x. steps m (seed m pk) 0 (length ps) (row m ps) (row m (map (answered m k) ps)) (null m, x)) (sym (multiple_null m key))
            ∙ s.1,
      )

  -- a proof that the prover makes leads back to its own challenge
  returned : (k u : K) (total : E) →
      let mw : E × E = (total, multiple m (m.scalars.part k) total) in
      let pk = public_key m k in
      rechallenge m pk mw (proof_of m k u pk mw) ≡ (proof_of m k u pk mw).0
  unfolding rechallenge proof_of public_key
  returned k u total =
      let key = m.scalars.part k in
      let n = m.scalars.part u in
      let got = multiple m key total in
      let pk = base_multiple m key in
      let c = challenge m pk total got (base_multiple m n) (multiple m n total) in
      let s = subtracted m.scalars n (multiplied m.scalars c key) in
      let t2 : sum m (base_multiple m s) (multiple m c pk) ≡ base_multiple m n =
      ap (λ x. sum m x (multiple m c pk)) ((lawful m).based s)
      ∙ ap (λ x. sum m (multiple m s (generator m)) (multiple m c x)) ((lawful m).based key)
      ∙ responds m n c key (generator m) ∙ sym ((lawful m).based n) in
      ap (λ x. challenge m pk total got x (sum m (multiple m s total) (multiple m c got))) t2
      ∙ ap (challenge m pk total got (base_multiple m n)) (responds m n c key total)

  pub proofs_pass : ProofsPass m
  unfolding proved
  proofs_pass k u ps few =
      let pk = public_key m k in
      let bs = row m ps in
      let es = row m (map (answered m k) ps) in
      let both = composed k pk ps few in
      let mw : E × E = (both.0, multiple m (m.scalars.part k) both.0) in
      let p = proof_of m k u pk mw in (
        p,
        ap (λ r. then r (λ x. Ok (proof_of m k u pk x))) both.1,
        sym (judged m pk bs es p mw (rechallenge m pk mw p) true (sym both.1) refl (same_scalars m (rechallenge m pk mw p) p.0 (returned k u both.0))),
      )
