-- The number's place is that of its document.
use Rattle.std.proofs.Common.{◌∙◌, ap, sym, List, ℕ, map, arith, Ok}
use Rattle.std.proofs.lemmas.List.{length-map, get_or-map}
use Rattle.std.proofs.lemmas.List.Sorted.{searched}
use Rattle.std.proofs.lemmas.Result.{IfOk-weaker}
use Rattle.pk_model.specs.Collection.{Doc}
use Rattle.pk_model.specs.Tree.{stand_in}
use Rattle.pk_model.specs.Views.{doc_of}
use Rattle.pk_model.specs.Words.{words_of}
use Rattle.pk_sets.proofs.PartLemmas.{rising_all}
use Rattle.pk_words.specs.Rows.{texts}
use Rattle.std.specs.Result.{is_ok}
use Rattle.pk_live.proofs.InRowLemmas.{stands_nowhere, stands_past, stands_there}
use Rattle.pk_index.proofs.RisingLemmas.{is_searched, no_lower}
use Rattle.pk_live.proofs.in_row.stands_at.Goals as goal

pub returns-in_default : goal.returns-in_default
returns-in_default c =
    let live = c.args.live.now in
    stands_nowhere (texts c.args.row.now) live (map doc_of c.args.documents.now) c.args.number
    (sym (is_searched live c.args.number c.binary_search.result c.requires.live c.binary_search.ensures.position) ∙ ap is_ok c.in_default.is)

pub returns-then-place-documents : goal.returns-then-place-documents
returns-then-place-documents c =
    let live = c.args.live.now in
    let at = searched live c.args.number (Ok c.in-Ok.place) c.in-Ok.ensures.position (no_lower live c.requires.live) in
    stands_past (texts c.args.row.now) live (map doc_of c.args.documents.now) c.in-Ok.place c.args.number 0 (rising_all live c.requires.live) at.0 at.1 (omega (arith, length-map c.args.documents.now doc_of))

pub returns : goal.returns
returns c =
    let live = c.args.live.now in
    let place = c.in-Ok.place in
    let docs = map doc_of c.args.documents.now in
    let at = searched live c.args.number (Ok place) c.in-Ok.ensures.position (no_lower live c.requires.live) in
    let d = c.index-documents-place.result in
    let here = sym (get_or-map doc_of c.args.documents.now place d (doc_of d) (omega arith)) in
    IfOk-weaker c.has_row.result _ _ (λ found e.
    e ∙ ap (λ (t : List ℕ). stand_in (texts c.args.row.now) (words_of t)) c.as_str.ensures.value ∙ ap (λ (x : Doc). stand_in (texts c.args.row.now) (words_of x.text)) here
    ∙ sym (stands_there (texts c.args.row.now) live docs place c.args.number 0 (doc_of d) (rising_all live c.requires.live) at.0 at.1 (omega (arith, length-map c.args.documents.now doc_of)))) c.has_row.ensures
