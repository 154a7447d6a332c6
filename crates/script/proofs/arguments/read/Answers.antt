use Rattle.std.proofs.Common.{rules, ◌≡◌, ℕ, List, get_or, Ok, Err, vec_items, codes, Result, Vec, sym, ap, ◌∙◌, subst, append-nil, arith}
use Rattle.std.proofs.lemmas.Slice.Eq.{slice_eq-Decides}
use Rattle.std.proofs.lemmas.List.{take_rest, get_or_past}
use Rattle.std.proofs.lemmas.Bool.{both_ways, ltb-true}
use Rattle.std.proofs.lemmas.Result.{err_from_is_err_and}
use Rattle.std.specs.Result.{MatchResult, IsErrAnd}
use Rattle.std.specs.declared.alloc.Global.{Global}
use Rattle.text.specs.Hexadecimal.{reading, Reads}
use Rattle.text.specs.declared.hex.HexFault.{HexFault}
use Rattle.text.specs.declared.hex.HexFault.TheVariants as hex
use Rattle.text.specs.declared.hex.HexFault.TheVariants.{Wrong}
use Rattle.script.specs.Arguments.{Adds, recalled, argument, as_bytes, misreading}
use Rattle.script.specs.Kept.{holds}
use Rattle.script.specs.declared.errors.LineFault.{LineFault}
use Rattle.script.proofs.Arguing.{is_nothing, is_recalled, is_read}
use Rattle.script.proofs.arguments.read.Goals as goal
use Rattle.script.proofs.arguments.read.Goals.{Joined-word-lt1, Else-eq, then-word-lt1, else-word-lt1+in_default-1}
use Rattle.std.proofs.lemmas.Bool.Decides.{Decides-eqb}

other : (c : Else-eq) → c.args.word.now ≡ codes "-" → ⊥
other c e = both_ways _ c.if-eq.false ((slice_eq-Decides Decides-eqb _ _ _ c.eq.ensures).1 e)

no_dollar : (c : Joined-word-lt1) → get_or c.args.word.now 0 0 ≡ 36 → ⊥
no_dollar c e = elim c.if-word-lt1.branch [
  | then-word-lt1 w ↦ omega (arith, get_or_past c.args.word.now 0 0 (omega (arith, ltb-true)))
  | else-word-lt1+in_default-1 w ↦ omega arith
]

as_read : (c : Joined-word-lt1) → argument (holds c.args.names.now) c.args.at c.args.word.now ≡ as_bytes c.args.at (reading c.args.word.now)
as_read c = is_read (holds c.args.names.now) c.args.at c.args.word.now (λ e. both_ways _ c.if-eq.false ((slice_eq-Decides Decides-eqb _ _ _ c.eq.ensures).1 e)) (no_dollar c)

adds_misread : (t : List ℕ) (v w : Vec ℕ Global) (at : ℕ) (a : Result (List ℕ) LineFault) (fault : HexFault) (f : LineFault) → a ≡ as_bytes at (reading t) → f ≡ misreading at fault → Reads t v w (Err fault) → Adds a v w (Err f)
adds_misread t v w at a (Wrong place) f is told read =
    subst (λ x. Adds x v w (Err f)) (sym (is ∙ ap (as_bytes at) read.0)) (told, ap vec_items read.1)
adds_misread t v w at a hex.Memory f is told read =
    subst (λ x. Adds x v w (Err f)) (sym (is ∙ ap (as_bytes at) read.0)) (told, read.1, read.2)

-- the same of whatever was read
adds_read : (t : List ℕ) (v w : Vec ℕ Global) (at : ℕ) (a : Result (List ℕ) LineFault) (s : Result (Unit {0}) HexFault) (r : Result (Unit {0}) LineFault) (Q : HexFault → LineFault → Type 0) → ((e : HexFault) (f : LineFault) → Q e f → f ≡ misreading at e)
    → a ≡ as_bytes at (reading t) → Reads t v w s → MatchResult s (λ x. r ≡ Ok x) (λ e. IsErrAnd r (Q e)) → Adds a v w r
adds_read t v w at a (Ok u) r Q told is read m =
    subst (λ x. Adds a v w x) (sym m) (subst (λ x. Adds x v w (Ok u)) (sym (is ∙ ap (as_bytes at) read.0)) read.1)
adds_read t v w at a (Err e) r Q told is read m =
    let p = err_from_is_err_and r m in
    subst (λ x. Adds a v w x) (sym p.1) (adds_misread t v w at a e p.0 is (told e p.0 p.2) read)

pub returns-then-eq : goal.returns-then-eq
returns-then-eq c =
    let v = c.args.bytes.now in
    let is = is_nothing (holds c.args.names.now) c.args.at c.args.word.now ((slice_eq-Decides Decides-eqb _ _ _ c.eq.ensures).0 c.if-eq.true) in
    subst (λ a. Adds a v v (Ok tt)) (sym is) (sym (append-nil (vec_items v)))

pub returns-in-36 : goal.returns-in-36
returns-in-36 c =
    let w = c.args.word.now in
    let is = is_recalled (holds c.args.names.now) c.args.at w (other (goal.at.returns-in-36 c).Else-eq) (omega arith) in
    subst (λ a. Adds a c.args.bytes.now c.recall.new.bytes c.recall.result) (ap (recalled (holds c.args.names.now) c.args.at) (take_rest w 1) ∙ sym is) c.recall.ensures

pub returns : goal.returns
returns c =
    adds_read c.args.word.now c.args.bytes.now c.read.new.bytes c.args.at _ c.read.result c.map_err.result _ (λ e f q. search rules) (as_read (goal.at.returns c).Joined-word-lt1) c.read.ensures c.map_err.ensures.cases
