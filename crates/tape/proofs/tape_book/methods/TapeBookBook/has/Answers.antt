use Rattle.std.proofs.Common.{◌≡◌, rules}
use Rattle.std.proofs.lemmas.Iterator.{YieldsList-from_slice, cases_from_any}
use borrow.Author.Tests.{tests}
use Rattle.book.specs.Meaning.{Pair}
use Rattle.tape.specs.Layout.{pair_at}
use Rattle.tape.proofs.Reading.{any_has}
use Rattle.tape.proofs.tape_book.methods.TapeBookBook.has.Goals as goal

pub returns : goal.returns
returns c =
    let all = c.records.result.now in
    let p : Pair = (c.args.epoch, c.args.nonce.now) in
    any_has all _ p c.any.result c.records.ensures
    (cases_from_any _ _ _ (λ s. pair_at s 0 ≡ p) (λ s. pair_at s 0 ≡ p → ⊥) c.any.ensures.ran (YieldsList-from_slice all cc) (λ x q k. search (rules, tests)) (λ x q k. search (rules, tests)))
