-- The words of a line: what they are, and the law that a line has one reading.
use Rattle.std.specs.Prelude.{◌≡◌, ℕ, ◌<◌, Bool, true, false, cond, ◌&&◌, List, [], ◌∷◌, ◌++◌, length, take, Some, None, Option}
use Rattle.std.specs.Borrow.{Bor}
use Rattle.std.specs.List.{prefix_len, AllByRecursion}
use Rattle.text.specs.Classes.{blank, solid, code}
use Rattle.text.specs.declared.words.Words.{Words}

-- what stands before the comment
abbrev pub before_comment : List ℕ → List ℕ
before_comment line = take (prefix_len code line) line

-- whether a text begins inside a word
abbrev pub starts_solid : List ℕ → Bool
starts_solid [] = false
starts_solid (c ∷ cs) = solid c

-- a character in front of the first word
abbrev pub onto_first : ℕ → List (List ℕ) → List (List ℕ)
onto_first c [] = (c ∷ []) ∷ []
onto_first c (w ∷ ws) = (c ∷ w) ∷ ws

-- the words of a text: its longest runs of characters that are no blanks
abbrev pub words : List ℕ → List (List ℕ)
words [] = []
words (c ∷ cs) = cond (solid c) (cond (starts_solid cs) (onto_first c (words cs)) ((c ∷ []) ∷ words cs)) (words cs)

-- the words of a line
abbrev pub line_words : List ℕ → List (List ℕ)
line_words line = words (before_comment line)

-- the words that are still to be taken
unfoldable pub left : Words → List (List ℕ)
left ws = words ws.rest.now

-- the first of the words is taken, if there is one
abbrev pub Taken : Option (Bor (List ℕ)) → List (List ℕ) → List (List ℕ) → Type 0
Taken None before after = (before ≡ []) × (after ≡ [])
Taken (Some w) before after = before ≡ w.now ∷ after

-- a character of a word: no blank, and not the start of a comment
abbrev pub in_word : ℕ → Bool
in_word c = solid c && code c

-- a word has such characters only, and at least one
abbrev pub Word : List ℕ → Type 0
Word w = (0 < length w) × AllByRecursion (λ c. in_word c ≡ true) w

-- a word may end before this text
abbrev pub Ends : List ℕ → Type 0
Ends [] = Unit {0}
Ends (c ∷ cs) = in_word c ≡ false

-- How a line is laid out: a comment has no words; a blank in front of a line changes nothing; and a word in
-- front of a line in which it may end is that line's first word.
pub data Laid : List ℕ → List (List ℕ) → Type 0 where
  nothing : Laid [] []
  comment : {c : ℕ} {t : List ℕ} → code c ≡ false → Laid (c ∷ t) []
  gap : {c : ℕ} {t : List ℕ} {ws : List (List ℕ)} → blank c ≡ true → Laid t ws → Laid (c ∷ t) ws
  word : {line w t : List ℕ} {ws : List (List ℕ)} → Word w → Ends t → Laid t ws → line ≡ w ++ t → Laid line (w ∷ ws)

-- words with one space between each two
abbrev pub spaced : List (List ℕ) → List ℕ
spaced [] = []
spaced (w ∷ []) = w
spaced (w ∷ v ∷ ws) = w ++ 32 ∷ spaced (v ∷ ws)

-- The law of lines: every line is laid out from the words that it is read as, it is laid out from no
-- others, and words that are joined by single spaces are read as themselves.
pub record OneReading : Type 0 where
  pub laid : (line : List ℕ) → Laid line (line_words line)
  pub alone : (line : List ℕ) (ws : List (List ℕ)) → Laid line ws → line_words line ≡ ws
  pub joined : (ws : List (List ℕ)) → AllByRecursion Word ws → line_words (spaced ws) ≡ ws
