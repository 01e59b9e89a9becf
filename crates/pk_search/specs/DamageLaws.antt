-- What calls one after the other note of damage.
use Rattle.std.proofs.Common.{◌≡◌, ◌∙◌, Bool, Option, Some, None, Result, Ok, Err, refl, sym, ap, subst}
use Rattle.pk_sets.specs.Puts.{fault_of}
use Rattle.pk_posting.specs.declared.fault.ReadFault.{ReadFault}
use Rattle.pk_posting.specs.declared.fault.ReadFault.TheVariants.{Memory}
use Rattle.pk_lookup.specs.Damages.{NotesDamage, met_after}
use Rattle.pk_lookup.specs.declared.damage.Damage.{Damage}
use Rattle.pk_search.specs.Leaves.{answer_of}

pub notes_none : (a : Damage) → NotesDamage a a (answer_of None)
notes_none a = refl

-- two calls, the first of which answered
pub notes_then : (fault : Option ReadFault) (a b c : Damage)
    → NotesDamage a b (answer_of None) → NotesDamage b c (answer_of fault)
    → NotesDamage a c (answer_of fault)
notes_then fault a b c first second =
    second ∙ ap (λ (met : Bool). met_after met (answer_of fault)) first

-- memory that was refused after a call that answered
pub notes_refused : (fault : ReadFault) (a b : Damage)
    → NotesDamage a b (answer_of None) → fault ≡ Memory → NotesDamage a b (answer_of (Some fault))
notes_refused fault a b notes is =
    subst (λ (f : ReadFault). NotesDamage a b (answer_of (Some f))) (sym is) notes

-- what a call noted of its answer, as that of its fault, and back
pub notes_fault : {T : Type 0} (result : Result T ReadFault) (a b : Damage)
    → NotesDamage a b result → NotesDamage a b (answer_of (fault_of result))
notes_fault (Ok v) a b notes = notes
notes_fault (Err fault) a b notes = notes

pub notes_back : {T : Type 0} (result : Result T ReadFault) (a b : Damage)
    → NotesDamage a b (answer_of (fault_of result)) → NotesDamage a b result
notes_back (Ok v) a b notes = notes
notes_back (Err fault) a b notes = notes
