-- The words of a text: the pieces between word boundaries that hold an alphanumeric character (UAX #29), each folded by Unicode's default full case folding.
use Rattle.std.specs.Prelude.{ℕ, List, map, chars, encode_utf8_all}
use Rattle.caseless.specs.Caseless.{default_case_fold}
use Rattle.unicode_segmentation.specs.Word.{words}

-- a piece of text, folded
unfoldable pub folded : List ℕ → List ℕ
folded piece = encode_utf8_all (default_case_fold (chars piece))

-- the words of a text, in its order, repeats kept
unfoldable pub words_of : List ℕ → List (List ℕ)
words_of text = map folded (words text)
