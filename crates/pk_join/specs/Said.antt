-- Where the words of an input lie as the bytes of its segment say, whatever they are.
use Rattle.std.specs.Prelude.{◌≡◌, ℕ, List}
use Rattle.pk_join.specs.Listed.{ListSource, Dictionary, Texts}
use Rattle.pk_segment.specs.Said.{dictionary_said, lists_said}

-- those of an input of kind 2 are the words of the dictionary that its header says, and the lists
-- begin at a place
abbrev pub AreSaid : List ℕ → ℕ → ℕ → ListSource → Type 0
AreSaid bytes lists kind (Dictionary place postings deleted) =
    (kind ≡ 2) × (place ≡ dictionary_said lists bytes) × (postings ≡ lists)
AreSaid bytes lists kind (Texts t deleted) = kind ≡ 2 → ⊥

-- the lists beginning where the header says
abbrev pub AreSaidIn : List ℕ → ℕ → ListSource → Type 0
AreSaidIn bytes kind l = AreSaid bytes (lists_said bytes) kind l
