use Rattle.std.proofs.Common.{◌≡◌, ℕ, ◌<◌, get_or, sym, subst, arith, rules}
use Rattle.std.proofs.lemmas.Bool.Decides.{not_from_Decides}
use Rattle.group.proofs.Codes.{decodes, refuses}
use Rattle.circ523.specs.Kind.{points}
use Rattle.circle.specs.Circle.{Member}
use Rattle.circle.specs.declared.Pair.{Pair}
use Rattle.circle.specs.Sums.{same}
use Rattle.circ523.proofs.Steps.{other_length, read_pair, code_read, no_member}
use Rattle.circ523.proofs.PointGroup.decode.Goals as goal

pub returns-in_default : goal.returns-in_default
returns-in_default c = refuses points c.args.bytes.now (other_length c.args.bytes.now (search rules))

pub returns-in_default-2 : goal.returns-in_default-2
returns-in_default-2 c = refuses points c.args.bytes.now (other_length c.args.bytes.now (search rules))

pub returns-then-is_member : goal.returns-then-is_member
returns-then-is_member c =
    let bytes = c.args.bytes.now in
    let small : (i : ℕ) → get_or bytes i 0 < 256 = λ i. omega (arith, c.type_inv.bytes i) in
    decodes points bytes _ (code_read bytes (search rules) small _ (same _ _ c.from_be_bytes-x.ensures c.from_be_bytes-y.ensures))

pub returns-else-is_member : goal.returns-else-is_member
returns-else-is_member c =
    let bytes = c.args.bytes.now in
    let read : Pair = record { x = c.from_be_bytes-x.result; y = c.from_be_bytes-y.result } in
    let pair : read ≡ read_pair bytes = same _ _ c.from_be_bytes-x.ensures c.from_be_bytes-y.ensures in
    let none = not_from_Decides c.is_member.result c.is_member.ensures c.if-is_member.false in
    refuses points bytes (no_member bytes (λ m. none (subst Member (sym pair) m)))
