-- The words that call commands.
use Rattle.std.specs.Prelude.{ℕ, List, [], ◌∷◌, codes, Option}
use Rattle.std.specs.List.{find}
use Rattle.std.specs.Str.{bytes_eq}
use Rattle.script.specs.declared.command.Command.{Command}
use Rattle.script.specs.declared.command.Command.TheVariants.{Digest, Group, Decode, Map, Base, Input, Direct, Book, Mark, Has, Drop, Size, Clear, Image, Protocol}
use Rattle.script.specs.declared.protocol.Word.TheVariants as word
use Rattle.script.specs.Protocol.{protocol_word}

-- all the commands
abbrev pub commands : List Command
commands =
    Digest ∷ Group ∷ Decode ∷ Map ∷ Base ∷ Input ∷ Direct ∷ Book ∷ Mark ∷ Has ∷ Drop ∷ Size ∷ Clear ∷ Image ∷
    Protocol word.Scratch ∷ Protocol word.Outlet ∷ Protocol word.Blind ∷ Protocol word.Finish ∷ Protocol word.Abandon ∷ Protocol word.Station ∷ Protocol word.Open ∷ Protocol word.Close ∷ Protocol word.Issue ∷ Protocol word.Redeem ∷ Protocol word.Count ∷ []

abbrev pub word_of : Command → List ℕ
word_of Digest = codes "digest"
word_of Group = codes "group"
word_of Decode = codes "decode"
word_of Map = codes "map"
word_of Base = codes "base"
word_of Input = codes "input"
word_of Direct = codes "direct"
word_of Book = codes "book"
word_of Mark = codes "mark"
word_of Has = codes "has"
word_of Drop = codes "drop"
word_of Size = codes "size"
word_of Clear = codes "clear"
word_of Image = codes "image"
word_of (Protocol w) = protocol_word w

-- the command that a word calls
unfoldable pub command_of : List ℕ → Option Command
command_of w = find (λ c. bytes_eq w (word_of c)) commands
