-- What it is that a merge leaves: nothing that a merge would change.
use Rattle.std.specs.Prelude.{◌≡◌, ◌⊎◌, List, [], ◌∷◌, None}
use Rattle.pk_manifest.specs.declared.manifest.Part.{Part as Entry}
use Rattle.pk_state.specs.Writing.{written_kind}

-- there is no entry, or just one, of the kind that is written and without a deletion list
pub record IsOnlyEntry (entries : List Entry) : Type 0 where
  pub entry : Entry
  pub alone : entries ≡ entry ∷ []
  pub kind : entry.kind ≡ written_kind
  pub no_list : entry.dead ≡ None

abbrev pub HasNothingToMerge : List Entry → Type 0
HasNothingToMerge entries = (entries ≡ []) ⊎ IsOnlyEntry entries
