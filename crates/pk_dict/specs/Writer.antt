-- What a writer has, and what may be added.
use Rattle.std.specs.Prelude.{◌≡◌, ◌<◌, ◌%◌, ◌^◌, List, [], ◌∷◌, ◌++◌, length}
use Rattle.std.specs.List.{AllByRecursion}
use Rattle.pk_dict.specs.declared.writer.DictWriter.{DictWriter}
use Rattle.pk_dict.specs.Dictionary.{Item, IsRising, Fits, groups, group_count, spelling}
use Rattle.pk_dict.specs.Lists.{starts_of, last_of}

-- these items were added to the writer
pub record HasAdded (w : DictWriter) (es : List Item) : Type 0 where
  pub rising : IsRising es
  pub fits : AllByRecursion Fits es
  pub size : length (spelling es) < 2 ^ 32
  pub starts : w.starts.items ≡ starts_of es (group_count (length es))
  pub body : w.body.items ≡ groups es
  pub last : w.last.items ≡ last_of [] es
  pub count : w.in_group ≡ length es % 16

-- an item may follow these: its term is greater than theirs, and the bytes stay below 2^32
pub record MayFollow (es : List Item) (e : Item) : Type 0 where
  pub rising : IsRising (es ++ e ∷ [])
  pub size : length (spelling (es ++ e ∷ [])) < 2 ^ 32

-- an item may be added: it may follow those that were
pub record MayAdd (w : DictWriter) (e : Item) : Type 0 where
  pub items : List Item
  pub added : HasAdded w items
  pub next : MayFollow items e
