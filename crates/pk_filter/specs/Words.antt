-- A filter of all words that any bytes say, as a dictionary.
use Rattle.std.specs.Prelude.{◌≡◌, ℕ, List, Ok}
use Rattle.pk_dict.specs.declared.entry.DictPlace.{DictPlace}
use Rattle.pk_dict.specs.Dictionary.{Item}
use Rattle.pk_dict.specs.Said.{words_of}
use Rattle.pk_filter.specs.declared.filter.WordFilter.{WordFilter}
use Rattle.pk_filter.specs.Filter.{HasAll}

-- each word of the dictionary that lies at a place of these bytes passes a filter, and none of them
-- is damaged
pub record HasWordsOf (content : List ℕ) (place : DictPlace) (filter : WordFilter) : Type 0 where
  pub words : List Item
  pub said : words_of content place ≡ Ok words
  pub all : HasAll words filter
