-- The hits without what is deleted.
use Rattle.std.proofs.Common.{◌≡◌, ◌∙◌, List, ℕ, ap₂, refl, rules, subst, sym}
use Rattle.pk_sets.specs.Puts.{PutsAs}
use Rattle.pk_open.specs.Opened.{with_deleted}
use Rattle.pk_plan.specs.Texts.{reads_texts}
use Rattle.pk_segment.specs.Reading.{IsNoDamage}
use Rattle.pk_sets.specs.Sets.{difference}
use Rattle.pk_search.proofs.LiveLemmas.{live_is}
use Rattle.pk_search.proofs.StoredLemmas.{leaves_at, left_back}
use Rattle.pk_search.specs.DamageLaws.{notes_back}
use Rattle.pk_lookup.specs.Damages.{NotesDamage}
use Rattle.pk_lookup.specs.declared.damage.Damage.{Damage}
use Rattle.pk_search.proofs.planned.find_hits.Goals as goal

pub returns-clause-hits : goal.returns-clause-hits
returns-clause-hits g c = λ h s kept spelled query means.
    let at = c.args.at.now in
    let is = ap₂ difference (means s.documents kept.index.front.spelled.are.rising) c.numbers-deleted.ensures.numbers ∙ live_is (with_deleted at.opened.now s) query in
    subst (λ (ns : List ℕ). PutsAs IsNoDamage ns c.find_in.new.buffers.hits.items c.find_in.result) is
    (c.find_in.ensures.hits (reads_texts at.planned.now.plan) _ s.documents (record { honestly = h; served = kept; spelled = spelled }) (λ e. e))

pub returns-clause-kept : goal.returns-clause-kept
returns-clause-kept g c = λ h docs kept.
    let left = c.find_in.ensures.left in
    let to : _ ≡ c.find_in.new.lists.source.now = search (rules, sym, left.0) in
    let now : _ ≡ c.find_in.new.lists.cache.now = search (rules, sym, left.1) in
    (leaves_at _ _ _ _ _ _ _ _ _ _ left.4 to now).served.served h _ docs kept

pub returns-clause-adds : goal.returns-clause-adds
returns-clause-adds g c =
    let left = c.find_in.ensures.left in
    let now : _ ≡ c.find_in.new.lists.cache.now = search (rules, sym, left.1) in
    (leaves_at _ _ _ _ _ _ _ _ _ _ left.4 refl now).served.adds

pub returns-clause-left : goal.returns-clause-left
returns-clause-left g c =
    let left = c.find_in.ensures.left in
    let to : _ ≡ c.find_in.new.lists.source.now = search (rules, sym, left.0) in
    left_back c.find_in.result _ _ (leaves_at _ _ _ _ _ _ _ _ _ _ left.4 to refl).read

pub returns-clause-damage : goal.returns-clause-damage
returns-clause-damage g c =
    let left = c.find_in.ensures.left in
    let now : _ ≡ c.find_in.new.lists.damage.now = search rules in
    subst (λ (d : Damage). NotesDamage c.args.room.now.damage d c.find_in.result) (sym now) (notes_back c.find_in.result _ _ left.6)
