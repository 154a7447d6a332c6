-- Four times each point of the circle is a multiple of G, by two tests that antt computes over the numbers below 523.
use Rattle.std.proofs.Common.{◌≡◌, ℕ, ◌+◌, ◌-◌, ◌*◌, ◌%◌, ◌^◌, ◌<◌, Bool, true, false, not, ◌||◌, T, eqb, ltb, ◌⊎◌, List, [], ◌∷◌, get_or, sym, refl, ap, ◌∙◌, subst, inl, inr, ⊎_elim, arith, eqb→eq, ltb→lt}
use native.Mathlib.Nat.{mod-add-mod}
use Rattle.std.proofs.lemmas.Bool.Decides.{Decides-eqb, Decides-and, Decides-like}
use Rattle.circle.specs.declared.Pair.{Pair}
use Rattle.circle.specs.Circle.{base, times, same_pair, OnCircle}
use Rattle.numbers.specs.Numbered.{Same}
use Rattle.circle.specs.Sums.{alike, same}
use Rattle.numbers.proofs.Logarithms.{true_from}
use Rattle.numbers.proofs.Table.{both, both_left, both_right, every, at, below, below_at}

-- 523 is 3 modulo 4, so c ^ 131 is a square root of c, if c has one
abbrev root : ℕ → ℕ
root c = c ^ 131 % 523

-- a number is the root of its square, or the opposite of that
abbrev rooted : ℕ → Bool
rooted y = let r = root ((y * y) % 523) in eqb y r || eqb y (523 - r)

roots : T (below rooted 523)
roots = tt

pub same_pairs : Same same_pair
same_pairs a b =
    Decides-like (same_pair a b) (λ e. same a b e.0 e.1) (λ e. (ap (λ c. c.x) e, ap (λ c. c.y) e))
    (Decides-and (eqb a.x b.x) (eqb a.y b.y) (Decides-eqb a.x b.x) (Decides-eqb a.y b.y))

abbrev on_circle : Pair → Bool
on_circle a = eqb ((a.x * a.x + a.y * a.y) % 523) 1

-- k is below 131, and k·G is four times a, if a is on the circle
abbrev fourfold : Pair → ℕ → Bool
fourfold a k = both (ltb k 131) (not (on_circle a) || same_pair (times k base) (times 4 a))

-- k for the point at x whose y is the root, and its opposite for the other
right : ℕ → ℕ → Bool
right x k =
    let r = root ((1 + 522 * (x * x)) % 523) in
    both (fourfold (record { x = x; y = r }) k) (fourfold (record { x = x; y = 523 - r }) ((131 - k) % 131))

-- the logarithm of four times the point at x whose y is the root, and 0 where there is none
logs : List ℕ
logs = 0 ∷ 0 ∷ 19 ∷ 53 ∷ 0 ∷ 0 ∷ 121 ∷ 38 ∷ 0 ∷ 113 ∷ 0 ∷ 21 ∷ 0 ∷ 0 ∷ 0 ∷ 83 ∷ 0 ∷ 106 ∷ 0 ∷ 0 ∷ 71 ∷ 0 ∷ 5 ∷ 55 ∷ 0 ∷ 88 ∷ 57 ∷ 39 ∷ 75 ∷ 39 ∷ 0 ∷ 0 ∷ 70 ∷ 0 ∷ 0 ∷ 52 ∷ 0 ∷ 49 ∷ 0 ∷ 38 ∷ 97 ∷ 0 ∷ 0 ∷ 0 ∷ 65 ∷ 122 ∷ 0 ∷ 0 ∷ 8 ∷ 0 ∷ 23 ∷ 46 ∷ 72 ∷ 0 ∷ 50 ∷ 84 ∷ 0 ∷ 0 ∷ 0 ∷ 51 ∷ 0 ∷ 68 ∷ 120 ∷ 62 ∷ 59 ∷ 0 ∷ 0 ∷ 0 ∷ 0 ∷ 0 ∷ 100 ∷ 20 ∷ 0 ∷ 64 ∷ 35 ∷ 0 ∷ 70 ∷ 0 ∷ 31 ∷ 121 ∷ 60 ∷ 0 ∷ 127 ∷ 0 ∷ 0 ∷ 0 ∷ 0 ∷ 0 ∷ 88 ∷ 127 ∷ 0 ∷ 0 ∷ 7 ∷ 0 ∷ 0 ∷ 0 ∷ 0 ∷ 55 ∷ 20 ∷ 103 ∷ 115 ∷ 0 ∷ 0 ∷ 105 ∷ 130 ∷ 0 ∷ 0 ∷ 0 ∷ 0 ∷ 105 ∷ 0 ∷ 0 ∷ 53 ∷ 0 ∷ 0 ∷ 0 ∷ 119 ∷ 0 ∷ 0 ∷ 5 ∷ 0 ∷ 19 ∷ 98 ∷ 0 ∷ 0 ∷ 32 ∷ 0 ∷ 0 ∷ 0 ∷ 7 ∷ 104 ∷ 67 ∷ 0 ∷ 102 ∷ 0 ∷ 18 ∷ 0 ∷ 68 ∷ 69 ∷ 97 ∷ 37 ∷ 0 ∷ 0 ∷ 13 ∷ 91 ∷ 15 ∷ 0 ∷ 0 ∷ 115 ∷ 25 ∷ 0 ∷ 8 ∷ 0 ∷ 0 ∷ 80 ∷ 0 ∷ 35 ∷ 122 ∷ 22 ∷ 0 ∷ 42 ∷ 36 ∷ 102 ∷ 116 ∷ 81 ∷ 0 ∷ 27 ∷ 0 ∷ 90 ∷ 0 ∷ 0 ∷ 0 ∷ 0 ∷ 0 ∷ 0 ∷ 0 ∷ 0 ∷ 118 ∷ 0 ∷ 0 ∷ 0 ∷ 0 ∷ 0 ∷ 0 ∷ 0 ∷ 95 ∷ 0 ∷ 73 ∷ 129 ∷ 65 ∷ 87 ∷ 117 ∷ 0 ∷ 23 ∷ 0 ∷ 0 ∷ 77 ∷ 3 ∷ 0 ∷ 0 ∷ 30 ∷ 14 ∷ 0 ∷ 86 ∷ 83 ∷ 91 ∷ 58 ∷ 0 ∷ 0 ∷ 30 ∷ 1 ∷ 99 ∷ 0 ∷ 6 ∷ 0 ∷ 82 ∷ 45 ∷ 41 ∷ 17 ∷ 0 ∷ 98 ∷ 0 ∷ 0 ∷ 0 ∷ 0 ∷ 3 ∷ 52 ∷ 94 ∷ 0 ∷ 22 ∷ 0 ∷ 85 ∷ 0 ∷ 0 ∷ 107 ∷ 0 ∷ 0 ∷ 0 ∷ 24 ∷ 47 ∷ 17 ∷ 89 ∷ 87 ∷ 0 ∷ 0 ∷ 21 ∷ 57 ∷ 120 ∷ 0 ∷ 54 ∷ 56 ∷ 0 ∷ 129 ∷ 0 ∷ 0 ∷ 0 ∷ 0 ∷ 0 ∷ 12 ∷ 103 ∷ 125 ∷ 0 ∷ 0 ∷ 6 ∷ 28 ∷ 119 ∷ 0 ∷ 0 ∷ 0 ∷ 0 ∷ 0 ∷ 2 ∷ 0 ∷ 75 ∷ 77 ∷ 0 ∷ 11 ∷ 74 ∷ 110 ∷ 0 ∷ 0 ∷ 44 ∷ 42 ∷ 114 ∷ 84 ∷ 107 ∷ 0 ∷ 0 ∷ 0 ∷ 24 ∷ 0 ∷ 0 ∷ 46 ∷ 0 ∷ 109 ∷ 0 ∷ 37 ∷ 79 ∷ 128 ∷ 0 ∷ 0 ∷ 0 ∷ 0 ∷ 33 ∷ 0 ∷ 114 ∷ 90 ∷ 86 ∷ 49 ∷ 0 ∷ 125 ∷ 0 ∷ 32 ∷ 130 ∷ 101 ∷ 0 ∷ 0 ∷ 73 ∷ 40 ∷ 48 ∷ 45 ∷ 0 ∷ 117 ∷ 101 ∷ 0 ∷ 0 ∷ 128 ∷ 54 ∷ 0 ∷ 0 ∷ 108 ∷ 0 ∷ 14 ∷ 44 ∷ 66 ∷ 2 ∷ 58 ∷ 0 ∷ 36 ∷ 0 ∷ 0 ∷ 0 ∷ 0 ∷ 0 ∷ 0 ∷ 0 ∷ 13 ∷ 0 ∷ 0 ∷ 0 ∷ 0 ∷ 0 ∷ 0 ∷ 0 ∷ 0 ∷ 41 ∷ 0 ∷ 104 ∷ 0 ∷ 50 ∷ 15 ∷ 29 ∷ 95 ∷ 89 ∷ 0 ∷ 109 ∷ 9 ∷ 96 ∷ 0 ∷ 51 ∷ 0 ∷ 0 ∷ 123 ∷ 0 ∷ 106 ∷ 16 ∷ 0 ∷ 0 ∷ 116 ∷ 40 ∷ 118 ∷ 0 ∷ 0 ∷ 94 ∷ 34 ∷ 62 ∷ 63 ∷ 0 ∷ 113 ∷ 0 ∷ 29 ∷ 0 ∷ 64 ∷ 27 ∷ 124 ∷ 0 ∷ 0 ∷ 0 ∷ 99 ∷ 0 ∷ 0 ∷ 33 ∷ 112 ∷ 0 ∷ 126 ∷ 0 ∷ 0 ∷ 12 ∷ 0 ∷ 0 ∷ 0 ∷ 78 ∷ 0 ∷ 0 ∷ 26 ∷ 0 ∷ 0 ∷ 0 ∷ 0 ∷ 1 ∷ 26 ∷ 0 ∷ 0 ∷ 16 ∷ 28 ∷ 111 ∷ 76 ∷ 0 ∷ 0 ∷ 0 ∷ 0 ∷ 124 ∷ 0 ∷ 0 ∷ 4 ∷ 43 ∷ 0 ∷ 0 ∷ 0 ∷ 0 ∷ 0 ∷ 4 ∷ 0 ∷ 71 ∷ 10 ∷ 100 ∷ 0 ∷ 61 ∷ 0 ∷ 96 ∷ 67 ∷ 0 ∷ 111 ∷ 31 ∷ 0 ∷ 0 ∷ 0 ∷ 0 ∷ 0 ∷ 72 ∷ 69 ∷ 11 ∷ 63 ∷ 0 ∷ 80 ∷ 0 ∷ 0 ∷ 0 ∷ 47 ∷ 81 ∷ 0 ∷ 59 ∷ 85 ∷ 108 ∷ 0 ∷ 123 ∷ 0 ∷ 0 ∷ 9 ∷ 66 ∷ 0 ∷ 0 ∷ 0 ∷ 34 ∷ 93 ∷ 0 ∷ 82 ∷ 0 ∷ 79 ∷ 0 ∷ 0 ∷ 61 ∷ 0 ∷ 0 ∷ 92 ∷ 56 ∷ 92 ∷ 74 ∷ 43 ∷ 0 ∷ 76 ∷ 126 ∷ 0 ∷ 60 ∷ 0 ∷ 0 ∷ 25 ∷ 0 ∷ 48 ∷ 0 ∷ 0 ∷ 0 ∷ 110 ∷ 0 ∷ 18 ∷ 0 ∷ 93 ∷ 10 ∷ 0 ∷ 0 ∷ 78 ∷ 112 ∷ 0 ∷ []

tested : T (every right 0 logs)
unfolding logs right times
tested = tt

either : (a b : Bool) → T (a || b) → T a ⊎ T b
either true b t = inl tt
either false b t = inr t

passed : (a b : Bool) → T (not a || b) → T a → T b
passed true b t u = t
passed false b t u = absurd u

-- the y of a point of the circle is the root of 1 − x², or the opposite of that
root_of : (a : Pair) → a.y < 523 → OnCircle a →
    let r = root ((1 + 522 * (a.x * a.x)) % 523) in (a.y ≡ r) ⊎ (a.y ≡ 523 - r)
root_of a h c =
    let y = a.y in
    let r = root ((y * y) % 523) in
    let square : (y * y) % 523 ≡ (1 + 522 * (a.x * a.x)) % 523 =
    alike (y * y) (a.x * a.x + y * y + 522 * (a.x * a.x)) (a.x * a.x) 0 (omega arith) ∙
    sym (mod-add-mod (a.x * a.x + y * y) 523 (522 * (a.x * a.x))) ∙ ap (λ (k : ℕ). (k + 522 * (a.x * a.x)) % 523) c in
    ⊎_elim
    (λ t. inl (eqb→eq y r t ∙ ap root square))
    (λ t. inr (eqb→eq y (523 - r) t ∙ ap (λ (k : ℕ). 523 - root k) square))
    (either (eqb y r) (eqb y (523 - r)) (below_at rooted 523 roots y h))

-- Some k below 131 has k·G = b.
abbrev pub Multiple : Pair → Type 0
Multiple b = (k : ℕ) × (k < 131) × (times k base ≡ b)

four_by : (a : Pair) (k : ℕ) → OnCircle a → T (fourfold a k) → Multiple (times 4 a)
four_by a k c t =
    let f = both_right (ltb k 131) (not (on_circle a) || same_pair (times k base) (times 4 a)) t in
    let e = passed (on_circle a) (same_pair (times k base) (times 4 a)) f (subst (λ (n : ℕ). T (eqb n 1)) (sym c) tt) in
    (k, ltb→lt k 131 (both_left (ltb k 131) (not (on_circle a) || same_pair (times k base) (times 4 a)) t), (same_pairs (times k base) (times 4 a)).0 (true_from (same_pair (times k base) (times 4 a)) e))

pub four : (a : Pair) → a.x < 523 → a.y < 523 → OnCircle a → Multiple (times 4 a)
unfolding logs right
four a h l c =
    let r = root ((1 + 522 * (a.x * a.x)) % 523) in
    let k = get_or logs a.x 0 in
    let up : Pair = record { x = a.x; y = r } in
    let down : Pair = record { x = a.x; y = 523 - r } in
    let t = at right logs tested a.x h in
    ⊎_elim
    (λ (e : a.y ≡ r). four_by a k c (subst (λ b. T (fourfold b k)) (same up a refl (sym e)) (both_left (fourfold up k) (fourfold down ((131 - k) % 131)) t)))
    (λ (e : a.y ≡ 523 - r).
    four_by a ((131 - k) % 131) c (subst (λ b. T (fourfold b ((131 - k) % 131))) (same down a refl (sym e)) (both_right (fourfold up k) (fourfold down ((131 - k) % 131)) t)))
    (root_of a l c)
