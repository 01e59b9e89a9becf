-- The words change nothing where the phrase stands, and the phrase is one test more.
use Rattle.std.proofs.Common.{◌∙◌, ◌&&◌, List, map, string_bytes, not, length, refl, sym, ap, subst}
use Rattle.std.specs.declared.alloc.Global.{Global}
use Rattle.std.proofs.lemmas.List.{length-map}
use Rattle.pk_plan.specs.declared.operands.PhrasePlaces.{PhrasePlaces}
use Rattle.pk_plan.specs.Operands.{all_take, any_takes, phrases_take}
use Rattle.pk_plan.specs.Plans.{row_at, takes}
use Rattle.pk_plan.proofs.TakingLemmas.{and_last, takes_phrase}
use Rattle.pk_plan.specs.Rows.{HasEach}
use Rattle.pk_plan.proofs.RowLemmas.{narrowed_rest, phrase_rest, row_stands}
use Rattle.pk_plan.proofs.operands.Operands.put_phrase.Goals as goal

pub returns-clause-same : goal.returns-clause-same
returns-clause-same c asked words =
    let old = c.args.self.now in
    let put = c.put_words.new.self in
    let phrase : PhrasePlaces = record { first = c.args.first; count = length c.args.row.now } in
    let before = all_take asked words old.places.items old.parts.items && not (any_takes asked words old.excluded.items) in
    let all = all_take asked words put.places.items put.parts.items && not (any_takes asked words put.excluded.items) in
    ap (λ (ps : List PhrasePlaces). all && phrases_take asked words ps) c.in_ok-push.ensures.items
    ∙ ap (λ b. all && b) (takes_phrase asked words put.phrases.items phrase)
    ∙ and_last all (phrases_take asked words put.phrases.items) (takes (row_at asked c.args.first (length c.args.row.now)) words)
    before (phrases_take asked words old.phrases.items) (c.in_ok-put_words.ensures.same asked words)

pub returns-clause-order : goal.returns-clause-order
returns-clause-order c =
    let o = c.in_ok-put_words.ensures.order in
    record { places = o.places; above = o.above; parts = o.parts; excluded = o.excluded }

pub returns-clause-rows : goal.returns-clause-rows
returns-clause-rows c asked stand rest =
    let row = map string_bytes c.args.row.now in
    let put = c.put_words.new.self in
    let phrase : PhrasePlaces = record { first = c.args.first; count = length c.args.row.now } in
    let is = row_stands asked row phrase (sym (length-map c.args.row.now (string_bytes {Z = Global}))) stand in
    phrase_rest asked put _ phrase refl refl refl c.in_ok-push.ensures.items
    (subst (HasEach asked put) (sym is) (c.in_ok-put_words.ensures.held asked stand))
    (narrowed_rest asked c.args.self.now put c.in_ok-put_words.ensures.narrowed rest)
