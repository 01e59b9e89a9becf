-- A walk joins the lists again.
use Rattle.std.proofs.Common.{◌≤◌, ℕ, List, length, sym, subst}
use Rattle.std.specs.Prelude.{All}
use Rattle.pk_join.proofs.ComeLemmas.{come_start}
use Rattle.pk_model.specs.Terms.{terms_of}
use Rattle.pk_posting.specs.Spelling.{spelling as list_spelling}
use Rattle.pk_segment.specs.Indexed.{list_with}
use Rattle.pk_state.specs.Committed.{live_in}
use Rattle.pk_merge.specs.Lists.{AreOfInputs, GiveLists}
use Rattle.pk_merge.proofs.lists.Lists.write.Goals as goal

pub returns-in-Walked-clause-bytes : goal.returns-in-Walked-clause-bytes
returns-in-Walked-clause-bytes g c = λ honest inputs stored give are spells apart room.
    let walk = c.in-Walked.walk in
    let joins = subst (GiveLists inputs stored) c.in-Walked.is give in
    let of = subst (AreOfInputs inputs) c.in-Walked.is are in
    let docs = live_in stored in
    let enough = subst (λ (l : List ℕ). All (λ w. length (list_spelling (list_with w docs)) ≤ length l) (terms_of docs))
    (sym c.deref_mut.ensures.value) joins.enough in
    c.write_lists.ensures.bytes honest inputs stored
    (come_start _ inputs stored walk of.0 spells joins.listed joins.can of.1) joins.roomy apart enough room
