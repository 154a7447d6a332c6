-- Tokens: the reader after the writer, and the writer after the reader.
use Rattle.std.proofs.Common.{◌≡◌, ℕ, ◌+◌, ◌*◌, ◌≤◌, not, eqb, List, [], ◌∷◌, ◌++◌, length, take, drop, Ok, sym, ap, ◌∙◌, subst, append_assoc, arith, length-append, length-drop, drop-drop, take_at, drop_at}
use Rattle.std.proofs.lemmas.List.{take-append-drop, take_all, length-take-le}
use Rattle.faults.specs.declared.WireFault.TheVariants.{WrongLength}
use Rattle.numbers.specs.Bytes.{two_bytes}
use Rattle.group.specs.Model.{Bytes}
use Rattle.messages.specs.Messages.{Parts, kind_in, epoch_in, token_in, token_bytes, token_input_bytes, read_token}
use Rattle.messages.specs.Laws.{written_token, Fitting, TokenTrip}
use Rattle.messages.proofs.Ruled.{passes, passed_equal, same_answer}
use Rattle.messages.proofs.Reading.{token_whole}
use Rattle.messages.proofs.Trips.{two_read, two_written, front_small}

-- five parts of a row, the last four of 32 bytes each
module _ (n c k a : List ℕ) (ln : length n ≡ 32) (lc : length c ≡ 32) (lk : length k ≡ 32) (la : length a ≡ 32) where
  abbrev row : List ℕ
  row = n ++ (c ++ (k ++ a))

  first : take 32 row ≡ n
  first = take_at n (c ++ (k ++ a)) 32 ln

  past_first : drop 32 row ≡ c ++ (k ++ a)
  past_first = drop_at n (c ++ (k ++ a)) 32 ln

  past_second : drop 64 row ≡ k ++ a
  past_second = sym (drop-drop 32 32 row) ∙ ap (drop 32) past_first ∙ drop_at c (k ++ a) 32 lc

  past_third : drop 96 row ≡ a
  past_third = sym (drop-drop 32 64 row) ∙ ap (drop 32) past_second ∙ drop_at k a 32 lk

  second : take 32 (drop 32 row) ≡ c
  second = ap (take 32) past_first ∙ take_at c (k ++ a) 32 lc

  third : take 32 (drop 64 row) ≡ k
  third = ap (take 32) past_second ∙ take_at k a 32 lk

  fourth : take 32 (drop 96 row) ≡ a
  fourth = ap (take 32) past_third ∙ take_all 32 a (omega arith)

  row_length : length row ≡ 128
  row_length = length-append n (c ++ (k ++ a)) ∙ omega (arith, length-append c (k ++ a), length-append k a)

-- a token as a row
in_a_row : (p : Parts) → written_token p ≡ two_bytes p.kind ++ (two_bytes p.epoch ++ (p.nonce ++ (p.context ++ (p.key_id ++ p.authenticator))))
unfolding token_bytes token_input_bytes
in_a_row p =
    let front = two_bytes p.kind ++ two_bytes p.epoch in
    ap (λ xs. front ++ xs) (append_assoc p.nonce (p.context ++ p.key_id) p.authenticator ∙ ap (λ xs. p.nonce ++ xs) (append_assoc p.context p.key_id p.authenticator))

again : (p : Parts) → Fitting p → read_token (written_token p) ≡ Ok p
again p f =
    let n = p.nonce in
    let c = p.context in
    let k = p.key_id in
    let a = p.authenticator in
    let rest = n ++ (c ++ (k ++ a)) in
    let bytes = two_bytes p.kind ++ (two_bytes p.epoch ++ rest) in
    let long : length bytes ≡ 132 = omega (arith, row_length n c k a f.nonce f.context f.key_id f.authenticator) in
    ap read_token (in_a_row p) ∙ token_whole bytes long ∙
    ap (λ (x : ℕ). Ok (record { kind = x; epoch = epoch_in bytes; nonce = take 32 rest; context = take 32 (drop 32 rest); key_id = take 32 (drop 64 rest); authenticator = take 32 (drop 96 rest) })) (two_read p.kind f.kind) ∙
    ap (λ (x : ℕ). Ok (record { kind = p.kind; epoch = x; nonce = take 32 rest; context = take 32 (drop 32 rest); key_id = take 32 (drop 64 rest); authenticator = take 32 (drop 96 rest) })) (two_read p.epoch f.epoch) ∙
    ap (λ x. Ok (record { kind = p.kind; epoch = p.epoch; nonce = x; context = take 32 (drop 32 rest); key_id = take 32 (drop 64 rest); authenticator = take 32 (drop 96 rest) })) (first n c k a f.nonce f.context f.key_id f.authenticator) ∙
    ap (λ x. Ok (record { kind = p.kind; epoch = p.epoch; nonce = n; context = x; key_id = take 32 (drop 64 rest); authenticator = take 32 (drop 96 rest) })) (second n c k a f.nonce f.context f.key_id f.authenticator) ∙
    ap (λ x. Ok (record { kind = p.kind; epoch = p.epoch; nonce = n; context = c; key_id = x; authenticator = take 32 (drop 96 rest) })) (third n c k a f.nonce f.context f.key_id f.authenticator) ∙
    ap (λ x. Ok (record { kind = p.kind; epoch = p.epoch; nonce = n; context = c; key_id = k; authenticator = x })) (fourth n c k a f.nonce f.context f.key_id f.authenticator)

-- 128 bytes are four parts of 32
four : (xs : List ℕ) → length xs ≡ 128 → xs ≡ take 32 xs ++ (take 32 (drop 32 xs) ++ (take 32 (drop 64 xs) ++ take 32 (drop 96 xs)))
four xs l =
    let last : drop 96 xs ≡ take 32 (drop 96 xs) = sym (take_all 32 (drop 96 xs) (omega (arith, length-drop 96 xs))) in
    let third : drop 64 xs ≡ take 32 (drop 64 xs) ++ take 32 (drop 96 xs) =
    sym (take-append-drop 32 (drop 64 xs)) ∙ ap (λ ys. take 32 (drop 64 xs) ++ ys) (drop-drop 32 64 xs ∙ last) in
    let second : drop 32 xs ≡ take 32 (drop 32 xs) ++ (take 32 (drop 64 xs) ++ take 32 (drop 96 xs)) =
    sym (take-append-drop 32 (drop 32 xs)) ∙ ap (λ ys. take 32 (drop 32 xs) ++ ys) (drop-drop 32 32 xs ∙ third) in
    sym (take-append-drop 32 xs) ∙ ap (λ ys. take 32 xs ++ ys) second

part_length : (xs : List ℕ) (n : ℕ) → n + 32 ≤ length xs → length (take 32 (drop n xs)) ≡ 32
part_length xs n h = let room : 32 ≤ length (drop n xs) = omega (arith, length-drop n xs) in length-take-le 32 (drop n xs) room

-- the two numbers in front
fronted : (bytes : List ℕ) → Bytes bytes → 4 ≤ length bytes → bytes ≡ two_bytes (kind_in bytes) ++ (two_bytes (epoch_in bytes) ++ drop 4 bytes)
fronted [] b h = absurd (omega arith)
fronted (k ∷ []) b h = absurd (omega arith)
fronted (k ∷ l ∷ []) b h = absurd (omega arith)
fronted (k ∷ l ∷ e ∷ []) b h = absurd (omega arith)
fronted (k ∷ l ∷ e ∷ f ∷ rest) b h =
    sym (ap (λ xs. xs ++ (two_bytes (e * 256 + f) ++ rest)) (two_written k l b.0 b.1.0) ∙ ap (λ xs. k ∷ l ∷ (xs ++ rest)) (two_written e f b.1.1.0 b.1.1.1.0))

token_told : (bytes : List ℕ) (p : Parts) → read_token bytes ≡ Ok p → (length bytes ≡ 132) × (token_in bytes ≡ p)
unfolding read_token
token_told bytes p e =
    let got = passes ((not (eqb (length bytes) 132), WrongLength) ∷ []) (Ok (token_in bytes)) p e in
    (passed_equal (length bytes) 132 got.0.0, same_answer (token_in bytes) p got.1)

written_in : (bytes : List ℕ) → Bytes bytes → length bytes ≡ 132 → bytes ≡ written_token (token_in bytes)
written_in bytes small long =
    let rest = drop 4 bytes in
    let here = four rest (omega (arith, length-drop 4 bytes)) in
    let later : take 32 rest ++ (take 32 (drop 32 rest) ++ (take 32 (drop 64 rest) ++ take 32 (drop 96 rest))) ≡
    take 32 (drop 4 bytes) ++ (take 32 (drop 36 bytes) ++ (take 32 (drop 68 bytes) ++ take 32 (drop 100 bytes))) =
    ap (λ xs. take 32 rest ++ (take 32 xs ++ (take 32 (drop 64 rest) ++ take 32 (drop 96 rest)))) (drop-drop 32 4 bytes) ∙
    ap (λ xs. take 32 rest ++ (take 32 (drop 36 bytes) ++ (take 32 xs ++ take 32 (drop 96 rest)))) (drop-drop 64 4 bytes) ∙
    ap (λ xs. take 32 rest ++ (take 32 (drop 36 bytes) ++ (take 32 (drop 68 bytes) ++ take 32 xs))) (drop-drop 96 4 bytes) in
    fronted bytes small (omega arith) ∙ ap (λ xs. two_bytes (kind_in bytes) ++ (two_bytes (epoch_in bytes) ++ xs)) (here ∙ later) ∙ sym (in_a_row (token_in bytes))

fitting_in : (bytes : List ℕ) → Bytes bytes → length bytes ≡ 132 → Fitting (token_in bytes)
fitting_in bytes small long =
    let front = front_small bytes small (omega arith) in
    record {
      kind = front.0;
      epoch = front.1;
      nonce = part_length bytes 4 (omega arith);
      context = part_length bytes 36 (omega arith);
      key_id = part_length bytes 68 (omega arith);
      authenticator = part_length bytes 100 (omega arith);
    }

only : (bytes : List ℕ) → Bytes bytes → (p : Parts) → read_token bytes ≡ Ok p → (bytes ≡ written_token p) × Fitting p
only bytes small p e =
    let told = token_told bytes p e in
    subst (λ (q : Parts). (bytes ≡ written_token q) × Fitting q) told.1 (written_in bytes small told.0, fitting_in bytes small told.0)

input_first : (p : Parts) → Fitting p → take 100 (written_token p) ≡ token_input_bytes p.kind p.epoch p.nonce p.context p.key_id
unfolding token_bytes token_input_bytes
input_first p f =
    let input = two_bytes p.kind ++ (two_bytes p.epoch ++ (p.nonce ++ (p.context ++ p.key_id))) in
    take_at input p.authenticator 100
    (omega (arith, f.nonce, f.context, f.key_id, length-append p.nonce (p.context ++ p.key_id), length-append p.context p.key_id))

pub token_trip : TokenTrip
token_trip =
    record {
      again = again;
      only = only;
      one = λ x y hx hy p ex ey. (only x hx p ex).0 ∙ sym (only y hy p ey).0;
      input = input_first;
    }
