-- What each write makes of the table, and what each read finds there. Assumes nothing.
use Rattle.std.proofs.Common.{◌≡◌, ℕ, ◌+◌, ◌-◌, ◌*◌, ◌<◌, ◌≤◌, ◌⊎◌, List, length, get_or, take, drop, set, replicate, sym, refl, ap, ◌∙◌, subst, inl, inr, ⊎_elim, arith}
use Rattle.std.proofs.lemmas.List.{length-replicate, get_or_past, get_or-replicate, same_lists, set_past}
use Rattle.chains.specs.Tables.{Entry, Table, blank, entry, put, at, head, with_head, with_size, with_entry, with_next, zeroed}
use Rattle.book.specs.Words.{word, Bytes}
use Rattle.chained.specs.Layout.{place, record_at, table_of, Written}
use Rattle.chained.proofs.Frames.{length_nonce, nonce_get_or, nonce_kept, word_kept, heads_of, records_of, table_is, length_heads, length_records, heads_at, records_at, heads_kept, heads_set, records_kept, records_set, later_kept, put_number, entry_number, put_none, entry_none}

-- ---- reads
pub read_head : (cap : ℕ) (m : List ℕ) (c : ℕ) → c < 65 → head (table_of cap m) c ≡ word m (2 * c)
read_head cap m c lt = ap (λ (t : Table). head t c) (table_is cap m) ∙ heads_at m c 0 lt

pub read_no_head : (cap : ℕ) (m : List ℕ) (c : ℕ) → 65 ≤ c → head (table_of cap m) c ≡ 0
read_no_head cap m c le = ap (λ (t : Table). head t c) (table_is cap m) ∙ get_or_past (heads_of m) c 0 (omega (arith, length_heads m))

pub read_size : (cap : ℕ) (m : List ℕ) → (table_of cap m).size ≡ word m 130
read_size cap m = ap (λ (t : Table). t.size) (table_is cap m)

pub read_places : (cap : ℕ) (m : List ℕ) → length (table_of cap m).entries ≡ cap
read_places cap m = ap (λ (t : Table). length t.entries) (table_is cap m) ∙ length_records cap m

pub read_record : (cap : ℕ) (m : List ℕ) (n : ℕ) → 1 ≤ n → n ≤ cap → at (table_of cap m) n ≡ record_at m (place (n - 1))
read_record cap m n lo hi = ap (λ (t : Table). at t n) (table_is cap m) ∙ entry_number (records_of cap m) n lo ∙ records_at cap m (n - 1) blank (omega arith)

pub read_none : (cap : ℕ) (m : List ℕ) (n : ℕ) → (1 ≤ n → n ≤ cap → ⊥) → at (table_of cap m) n ≡ blank
read_none cap m n none = ap (λ (t : Table). at t n) (table_is cap m) ∙ entry_none (records_of cap m) n (λ lo hi. none lo (omega (arith, length_records cap m)))

-- ---- a table by its parts
parts : (cap : ℕ) (m n : List ℕ) (hs : List ℕ) (size : ℕ) (es : List Entry) → heads_of n ≡ hs → word n 130 ≡ size → records_of cap n ≡ es → table_of cap n ≡ record { heads = hs; size = size; entries = es }
parts cap m n hs size es a b c =
    table_is cap n
    ∙ ap (λ x. record { heads = x; size = word n 130; entries = records_of cap n }) a
    ∙ ap (λ x. record { heads = hs; size = x; entries = records_of cap n }) b
    ∙ ap (λ x. record { heads = hs; size = size; entries = x }) c

-- nothing is written
pub written_none : (cap : ℕ) (m : List ℕ) (t : Table) → Bytes m → table_of cap m ≡ t → Written cap m m t
written_none cap m t b e = record { table = e; later = refl; bytes = b }

pub no_head : (cap : ℕ) (m : List ℕ) (c x : ℕ) → 65 ≤ c → table_of cap m ≡ with_head (table_of cap m) c x
no_head cap m c x le =
    parts cap m m (heads_of m) (word m 130) (records_of cap m) refl refl refl
    ∙ ap (λ hs. record { heads = hs; size = word m 130; entries = records_of cap m }) (sym (set_past (heads_of m) c x (omega (arith, length_heads m))))
    ∙ sym (ap (λ (t : Table). with_head t c x) (table_is cap m))

pub no_record : (cap : ℕ) (m : List ℕ) (n : ℕ) (e : Entry) → (1 ≤ n → n ≤ cap → ⊥) → table_of cap m ≡ with_entry (table_of cap m) n e
no_record cap m n e none =
    table_is cap m
    ∙ ap (λ es. record { heads = heads_of m; size = word m 130; entries = es }) (sym (put_none (records_of cap m) n e (λ lo hi. none lo (omega (arith, length_records cap m)))))
    ∙ sym (ap (λ (t : Table). with_entry t n e) (table_is cap m))

-- a word is written
module _ (cap : ℕ) (m n : List ℕ) (at x : ℕ) (fits : place cap ≤ length m) (long : length n ≡ length m)
    (there : word n at ≡ x) (same : (k : ℕ) → (k < at) ⊎ (at + 2 ≤ k) → get_or n k 0 ≡ get_or m k 0) (bytes : Bytes n) where
  pub head_written : (c : ℕ) → c < 65 → at ≡ 2 * c → Written cap m n (with_head (table_of cap m) c x)
  head_written c lt is = record {
    table = parts cap m n (set (heads_of m) c x) (word m 130) (records_of cap m)
        (heads_set m n c x lt (subst (λ y. word n y ≡ x) is there) (λ k s. same k (subst (λ y. (k < y) ⊎ (y + 2 ≤ k)) (sym is) s)))
        (word_kept m n 130 (same 130 (inr (omega arith))) (same 131 (inr (omega arith))))
        (records_kept cap m n fits long (λ k lo hi. same k (inr (omega arith))))
        ∙ sym (ap (λ (t : Table). with_head t c x) (table_is cap m));
    later = later_kept cap m n long (λ k lo. same k (inr (omega arith)));
    bytes = bytes;
  }

  pub size_written : at ≡ 130 → Written cap m n (with_size (table_of cap m) x)
  size_written is = record {
    table = parts cap m n (heads_of m) x (records_of cap m)
        (heads_kept m n (λ k lt. same k (inl (omega arith))))
        (subst (λ y. word n y ≡ x) is there)
        (records_kept cap m n fits long (λ k lo hi. same k (inr (omega arith))))
        ∙ sym (ap (λ (t : Table). with_size t x) (table_is cap m));
    later = later_kept cap m n long (λ k lo. same k (inr (omega arith)));
    bytes = bytes;
  }

-- a record is written
module _ (cap : ℕ) (m n : List ℕ) (number : ℕ) (e : Entry) (fits : place cap ≤ length m) (long : length n ≡ length m)
    (lo : 1 ≤ number) (hi : number ≤ cap) (there : record_at n (place (number - 1)) ≡ e)
    (same : (k : ℕ) → (k < place (number - 1)) ⊎ (place (number - 1) + 36 ≤ k) → get_or n k 0 ≡ get_or m k 0) where
  pub record_table : table_of cap n ≡ with_entry (table_of cap m) number e
  record_table =
      parts cap m n (heads_of m) (word m 130) (put (records_of cap m) number e)
      (heads_kept m n (λ k lt. same k (inl (omega arith))))
      (word_kept m n 130 (same 130 (inl (omega arith))) (same 131 (inl (omega arith))))
      (records_set cap m n (number - 1) e (omega arith) fits long there same ∙ sym (put_number (records_of cap m) number e lo))
      ∙ sym (ap (λ (t : Table). with_entry t number e) (table_is cap m))

  pub record_later : drop (place cap) n ≡ drop (place cap) m
  record_later = later_kept cap m n long (λ k low. same k (inr (omega arith)))

-- the whole table is zeroed
module _ (cap : ℕ) (m n : List ℕ) (fits : place cap ≤ length m) (long : length n ≡ length m)
    (zeros : (k : ℕ) → k < place cap → get_or n k 0 ≡ 0) (same : (k : ℕ) → place cap ≤ k → get_or n k 0 ≡ get_or m k 0) (bytes : Bytes n) where
  zero_word : (k : ℕ) → k + 1 < place cap → word n k ≡ 0
  zero_word k lt = let a = zeros k (omega arith) in let b = zeros (k + 1) lt in omega arith

  zero_nonce : (k : ℕ) → k + 32 ≤ place cap → take 32 (drop k n) ≡ replicate 32 0
  zero_nonce k le = same_lists _ _ (length_nonce n k (omega arith) ∙ sym (length-replicate {A = ℕ} 32 0)) (λ j d h.
      let b : j < 32 = omega (arith, length_nonce n k (omega arith)) in
      nonce_get_or n k j d (omega arith) b ∙ zeros (k + j) (omega arith) ∙ sym (get_or-replicate 32 j 0 d b))

  zero_record : (i : ℕ) → i < cap → record_at n (place i) ≡ blank
  zero_record i lt =
      ap (λ x. record { next = x; epoch = word n (place i + 2); nonce = take 32 (drop (place i + 4) n) }) (zero_word (place i) (omega arith))
      ∙ ap (λ x. record { next = 0; epoch = x; nonce = take 32 (drop (place i + 4) n) }) (zero_word (place i + 2) (omega arith))
      ∙ ap (λ x. record { next = 0; epoch = 0; nonce = x }) (zero_nonce (place i + 4) (omega arith))

  pub zero_written : Written cap m n (zeroed cap)
  zero_written = record {
    table = parts cap m n (replicate 65 0) 0 (replicate cap blank)
        (same_lists _ _ (length_heads n ∙ sym (length-replicate {A = ℕ} 65 0)) (λ c d h.
        let b : c < 65 = omega (arith, length_heads n) in
        heads_at n c d b ∙ zero_word (2 * c) (omega arith) ∙ sym (get_or-replicate 65 c 0 d b)))
        (zero_word 130 (omega arith))
        (same_lists _ _ (length_records cap n ∙ sym (length-replicate cap blank)) (λ i d h.
        let b : i < cap = omega (arith, length_records cap n) in
        records_at cap n i d b ∙ zero_record i b ∙ sym (get_or-replicate cap i blank d b)));
    later = later_kept cap m n long same;
    bytes = bytes;
  }

-- a record's next is written
pub next_written : (cap : ℕ) (m n : List ℕ) (number v at : ℕ) → place cap ≤ length m → length n ≡ length m → 1 ≤ number → number ≤ cap → at ≡ place (number - 1)
    → word n at ≡ v → ((k : ℕ) → (k < at) ⊎ (at + 2 ≤ k) → get_or n k 0 ≡ get_or m k 0) → Bytes n
    → Written cap m n (with_next (table_of cap m) number v)
next_written cap m n number v at fits long lo hi is there same bytes =
    let i = number - 1 in
    let old = read_record cap m number lo hi in
    let inside : place i + 36 ≤ length m = omega arith in
    let epochs : word n (place i + 2) ≡ word m (place i + 2) = word_kept m n (place i + 2) (same (place i + 2) (inr (omega arith))) (same (place i + 2 + 1) (inr (omega arith))) in
    let nonces : take 32 (drop (place i + 4) n) ≡ take 32 (drop (place i + 4) m) = nonce_kept m n (place i + 4) (omega arith) (omega arith) (λ k low high. same k (inr (omega arith))) in
    let e : record_at n (place i) ≡ record { next = v; epoch = word m (place i + 2); nonce = take 32 (drop (place i + 4) m) } =
    ap (λ x. record { next = x; epoch = word n (place i + 2); nonce = take 32 (drop (place i + 4) n) }) (subst (λ y. word n y ≡ v) is there)
    ∙ ap (λ x. record { next = v; epoch = x; nonce = take 32 (drop (place i + 4) n) }) epochs
    ∙ ap (λ x. record { next = v; epoch = word m (place i + 2); nonce = x }) nonces in
    let out : (k : ℕ) → (k < place i) ⊎ (place i + 36 ≤ k) → get_or n k 0 ≡ get_or m k 0 = λ k s. same k (⊎_elim (λ (l : k < place i). inl (omega arith)) (λ (l : place i + 36 ≤ k). inr (omega arith)) s) in
    let now-old : record { next = v; epoch = word m (place i + 2); nonce = take 32 (drop (place i + 4) m) } ≡ record { next = v; epoch = (Rattle.chains.specs.Tables.at (table_of cap m) number).epoch; nonce = (Rattle.chains.specs.Tables.at (table_of cap m) number).nonce } =
    ap (λ (x : Entry). record { next = v; epoch = x.epoch; nonce = x.nonce }) (sym old) in
    record {
      table = record_table cap m n number _ fits long lo hi (e ∙ now-old) out;
      later = record_later cap m n number _ fits long lo hi (e ∙ now-old) out;
      bytes = bytes;
    }

-- a whole record is written, part by part
pub put_written : (cap : ℕ) (m a b n : List ℕ) (number v epoch at : ℕ) (nonce : List ℕ) → place cap ≤ length m → length a ≡ length m → length b ≡ length a → length n ≡ length b
    → 1 ≤ number → number ≤ cap → at ≡ place (number - 1)
    → word a at ≡ v → ((k : ℕ) → (k < at) ⊎ (at + 2 ≤ k) → get_or a k 0 ≡ get_or m k 0)
    → word b (at + 2) ≡ epoch → ((k : ℕ) → (k < at + 2) ⊎ (at + 2 + 2 ≤ k) → get_or b k 0 ≡ get_or a k 0)
    → take 32 (drop (at + 4) n) ≡ nonce → ((k : ℕ) → (k < at + 4) ⊎ (at + 4 + 32 ≤ k) → get_or n k 0 ≡ get_or b k 0)
    → Bytes n → Written cap m n (with_entry (table_of cap m) number (record { next = v; epoch = epoch; nonce = nonce }))
put_written cap m a b n number v epoch at nonce fits la lb ln lo hi is w1 s1 w2 s2 w3 s3 bytes =
    let i = number - 1 in
    let inside : place i + 36 ≤ length m = omega arith in
    let long : length n ≡ length m = ln ∙ lb ∙ la in
    let next-is : word n at ≡ v = word_kept b n at (s3 at (inl (omega arith))) (s3 (at + 1) (inl (omega arith))) ∙ word_kept a b at (s2 at (inl (omega arith))) (s2 (at + 1) (inl (omega arith))) ∙ w1 in
    let epoch_is : word n (at + 2) ≡ epoch = word_kept b n (at + 2) (s3 (at + 2) (inl (omega arith))) (s3 (at + 2 + 1) (inl (omega arith))) ∙ w2 in
    let there : record_at n at ≡ record { next = v; epoch = epoch; nonce = nonce } =
    ap (λ x. record { next = x; epoch = word n (at + 2); nonce = take 32 (drop (at + 4) n) }) next-is
    ∙ ap (λ x. record { next = v; epoch = x; nonce = take 32 (drop (at + 4) n) }) epoch_is
    ∙ ap (λ x. record { next = v; epoch = epoch; nonce = x }) w3 in
    let e : record_at n (place i) ≡ record { next = v; epoch = epoch; nonce = nonce } = subst (λ y. record_at n y ≡ record { next = v; epoch = epoch; nonce = nonce }) is there in
    let out : (k : ℕ) → (k < place i) ⊎ (place i + 36 ≤ k) → get_or n k 0 ≡ get_or m k 0 = λ k s. ⊎_elim
    (λ (l : k < place i). s3 k (inl (omega arith)) ∙ s2 k (inl (omega arith)) ∙ s1 k (inl (omega arith)))
    (λ (l : place i + 36 ≤ k). s3 k (inr (omega arith)) ∙ s2 k (inr (omega arith)) ∙ s1 k (inr (omega arith))) s in
    record {
      table = record_table cap m n number _ fits long lo hi e out;
      later = record_later cap m n number _ fits long lo hi e out;
      bytes = bytes;
    }
