use Rattle.std.proofs.Common.{◌≡◌, ℕ, ◌+◌, List, take, drop, sym, ap, ◌∙◌, length, arith}
use Rattle.std.proofs.lemmas.Bool.{false≢true, eqb-true}
use Rattle.std.proofs.lemmas.Bool.Decides.{not_from_Decides, Decides-eqb}
use Rattle.std.proofs.lemmas.Slice.Eq.{slice_eq-Decides}
use Rattle.book.specs.Meaning.{Pair}
use Rattle.chains.specs.Tables.{pair_of}
use Rattle.book.specs.Words.{word}
use Rattle.chained.specs.Facts.{room_fits}
use Rattle.chained.proofs.Writes.{read_record, read_none}
use Rattle.chained.proofs.rows.records.RowsRecords.holds.Goals as goal

-- a pair by its two parts
pair_is : (a b : ℕ) (xs ys : List ℕ) → a ≡ b → xs ≡ ys → ◌≡◌ {A = Pair} (a, xs) (b, ys)
pair_is a b xs ys p q = cc

pub word_at-requires : goal.word_at-requires
word_at-requires c =
    let b = c.args.self.now in
    let fits = room_fits (length b.memory.now) b.capacity b.room in
    let some = c.has.ensures.0 c.if-not-has.false in
    omega arith

pub nonce_at-requires : goal.nonce_at-requires
nonce_at-requires c =
    let b = c.args.self.now in
    let fits = room_fits (length b.memory.now) b.capacity b.room in
    let some = c.has.ensures.0 c.if-not-has.false in
    omega arith

pub returns-then-epoch-eq0 : goal.returns-then-epoch-eq0
returns-then-epoch-eq0 c =
    let none = not_from_Decides c.has.result c.has.ensures c.if-not-has.true in
    let blank = ap pair_of (read_none c.args.self.now.capacity c.args.self.now.memory.now c.args.number (λ lo hi. none (lo, hi))) in
    let d = slice_eq-Decides Decides-eqb _ _ _ c.eq.ensures in
    (λ t. blank ∙ pair_is _ _ _ _ (sym c.if-epoch-eq0.true) (sym (d.0 t)), λ p. d.1 (sym (ap (λ (q : Pair). q.1) (sym blank ∙ p))))

pub returns-else-epoch-eq0 : goal.returns-else-epoch-eq0
returns-else-epoch-eq0 c =
    let none = not_from_Decides c.has.result c.has.ensures c.if-not-has.true in
    let blank = ap pair_of (read_none c.args.self.now.capacity c.args.self.now.memory.now c.args.number (λ lo hi. none (lo, hi))) in
    (λ t. absurd (c.if-epoch-eq0.false (eqb-true c.args.epoch 0 t)), λ p. absurd (c.if-epoch-eq0.false (sym (ap (λ (q : Pair). q.0) (sym blank ∙ p)))))

pub returns-then-word_at-epoch : goal.returns-then-word_at-epoch
returns-then-word_at-epoch c =
    let some = c.has.ensures.0 c.if-not-has.false in
    let there = ap pair_of (read_record c.args.self.now.capacity c.args.self.now.memory.now c.args.number some.0 some.1) in
    let read = c.word_at.ensures ∙ ap (λ x. word c.args.self.now.memory.now (x + 2)) c.start-at.ensures in
    (λ t. absurd (false≢true t), λ p. absurd (c.if-word_at-epoch.true (read ∙ ap (λ (q : Pair). q.0) (sym there ∙ p))))

pub returns : goal.returns
returns c =
    let m = c.args.self.now.memory.now in
    let some = c.has.ensures.0 c.if-not-has.false in
    let there = ap pair_of (read_record c.args.self.now.capacity m c.args.number some.0 some.1) in
    let read = c.word_at.ensures ∙ ap (λ x. word m (x + 2)) c.start-at.ensures in
    let f = ap (λ x. take 32 (drop (x + 4) m)) c.start-at.ensures in
    let d = c.nonce_at.ensures in
    (λ t. there ∙ pair_is _ _ _ _ (sym read ∙ c.if-word_at-epoch.false) (sym f ∙ d.0 t), λ p. d.1 (f ∙ ap (λ (q : Pair). q.1) (sym there ∙ p)))
