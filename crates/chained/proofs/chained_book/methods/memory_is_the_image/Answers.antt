use Rattle.chained.proofs.Images.{one_image}
use Rattle.chained.proofs.chained_book.methods.memory_is_the_image.Goals as goal

pub returns : goal.returns
returns c = one_image
