use Rattle.tape.proofs.Reading.{read_back, one_image}
use Rattle.tape.proofs.tape_book.methods.image_tells_the_pairs.Goals as goal

pub returns : goal.returns
returns c = record { back = read_back; one = one_image }
