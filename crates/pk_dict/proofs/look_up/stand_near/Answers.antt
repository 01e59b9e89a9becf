-- What both ends say is known as the halving goes on between them.
use Rattle.std.proofs.Common.{arith, ap, refl, sym, subst, ◌∙◌, ◌-◌, ◌*◌, length, List, ℕ}
use Rattle.pk_dict.specs.Dictionary.{DictSpells, group_count}
use Rattle.pk_dict.specs.LookUp.{IsToldIn, narrow_at}
use Rattle.pk_dict.specs.Place.{bytes_at}
use Rattle.pk_dict.specs.Reading.{Gives}
use Rattle.pk_dict.specs.Search.{Goes, IsKnown}
use Rattle.pk_dict.proofs.Ends.{known_first}
use Rattle.pk_dict.proofs.Probing.{ends_well, goes_on_well}
use Rattle.pk_dict.proofs.Told.{all_left, all_stand, all_told, same_between, same_search, stands_told, told_none}
use Rattle.pk_dict.proofs.look_up.stand_near.Goals as goal

pub returns-in-Open-clause-stands : goal.returns-in-Open-clause-stands
returns-in-Open-clause-stands g c = λ h es d len.
    let place = c.args.place in
    let term : List ℕ = c.args.term.now in
    let b = c.in-Open.between in
    let below = c.in_ok-search.ensures.left.same h in
    let both = c.in_ok-search-2.ensures.left.same h ∙ below in
    let first = known_first (bytes_at (g.S.ByteSource.content c.args.source.now) place) es term c.groups_of-groups.result 0 0 (c.groups_of-groups.ensures ∙ ap group_count (sym len)) in
    let known = c.in_ok-search.ensures.known h es d len first in
    let again = subst (λ (l : List ℕ). IsKnown (bytes_at l place) es term c.in_ok-search.search) (sym below) known in
    let ends = c.in_ok-search-2.ensures.known h es (subst (λ (l : List ℕ). DictSpells (bytes_at l place) es) (sym below) d) len again in
    goes_on_well (bytes_at (g.S.ByteSource.content c.args.source.now) place) es term place.terms b _ d len
    (subst (Goes (group_count place.terms) (length term)) c.in-Open.is c.in_ok-search-2.ensures.goes)
    (subst (IsKnown (bytes_at (g.S.ByteSource.content c.args.source.now) place) es term) c.in-Open.is (subst (λ (l : List ℕ). IsKnown (bytes_at l place) es term c.in_ok-search-2.search) below ends))
    (subst (λ (l : List ℕ). Gives c.narrow_from.result (narrow_at (b.high - b.low) (bytes_at l place) (4 * group_count place.terms) term b.low b.high b.matched b.next)) both (c.narrow_from.ensures.value h))

pub returns-then-groups-gt-MOST_GROUPS-clause-stands : goal.returns-then-groups-gt-MOST_GROUPS-clause-stands
returns-then-groups-gt-MOST_GROUPS-clause-stands g c = λ h es d len.
    ends_well _ es c.args.term.now c.args.place.terms _ d len (c.narrow.ensures.value h)

pub returns-then-groups-gt-MOST_GROUPS-clause-told : goal.returns-then-groups-gt-MOST_GROUPS-clause-told
returns-then-groups-gt-MOST_GROUPS-clause-told g c = λ h.
    all_told _ c.args.place.terms c.args.term.now _ (c.narrow.ensures.value h)

pub returns-then-groups-gt-MOST_GROUPS-clause-most : goal.returns-then-groups-gt-MOST_GROUPS-clause-most
returns-then-groups-gt-MOST_GROUPS-clause-most g c = c.narrow.ensures.asks 28 (omega arith)

pub returns-in_err-search-clause-unknown : goal.returns-in_err-search-clause-unknown
returns-in_err-search-clause-unknown g c = λ h e.
    let all = all_left _ c.args.pivots.now _ c.around-bounds.result c.around-bounds.ensures.value e in
    let past = c.in_err-search.ensures.past _ refl (omega (arith, all.1)) in
    absurd cc

pub returns-in_err-search-2-clause-unknown : goal.returns-in_err-search-2-clause-unknown
returns-in_err-search-2-clause-unknown g c = λ h e.
    let all = all_left _ c.args.pivots.now _ c.around-bounds.result c.around-bounds.ensures.value e in
    let first = same_search _ _ _ refl (c.in_ok-search.ensures.past _ refl (omega (arith, all.1))) in
    let past = c.in_err-search-2.ensures.past _ first (omega (arith, all.0)) in
    absurd cc

pub returns-in-Done-clause-unknown : goal.returns-in-Done-clause-unknown
returns-in-Done-clause-unknown g c = λ h e.
    let all = all_left _ c.args.pivots.now _ c.around-bounds.result c.around-bounds.ensures.value e in
    let first = same_search _ _ _ refl (c.in_ok-search.ensures.past _ refl (omega (arith, all.1))) in
    let both = same_search _ _ _ refl (c.in_ok-search-2.ensures.past _ first (omega (arith, all.0))) in
    let no = sym c.in-Done.is ∙ both in
    absurd cc

pub returns-in-Open-clause-unknown : goal.returns-in-Open-clause-unknown
returns-in-Open-clause-unknown g c = λ h e.
    let place = c.args.place in
    let term : List ℕ = c.args.term.now in
    let b = c.in-Open.between in
    let all = all_left _ c.args.pivots.now _ c.around-bounds.result c.around-bounds.ensures.value e in
    let first = same_search _ _ _ refl (c.in_ok-search.ensures.past _ refl (omega (arith, all.1))) in
    let both = same_search _ _ _ refl (c.in_ok-search-2.ensures.past _ first (omega (arith, all.0))) in
    let content = c.in_ok-search-2.ensures.left.same h ∙ c.in_ok-search.ensures.left.same h in
    all_stand (bytes_at (g.S.ByteSource.content c.args.source.now) place) place.terms term c.groups_of-groups.result _ b _ c.groups_of-groups.ensures (same_between _ _ (sym c.in-Open.is ∙ both))
    (subst (λ (l : List ℕ). Gives c.narrow_from.result (narrow_at (b.high - b.low) (bytes_at l place) (4 * group_count place.terms) term b.low b.high b.matched b.next)) content (c.narrow_from.ensures.value h))

pub returns-in-Open-clause-told : goal.returns-in-Open-clause-told
returns-in-Open-clause-told g c = λ h.
    let place = c.args.place in
    let term : List ℕ = c.args.term.now in
    let b = c.in-Open.between in
    let below = c.in_ok-search.ensures.left.same h in
    let both = c.in_ok-search-2.ensures.left.same h ∙ below in
    let here : List ℕ = bytes_at (g.S.ByteSource.content c.args.source.now) place in
    let first = c.in_ok-search.ensures.told h (told_none here place.terms term c.groups_of-groups.result 0 0 c.groups_of-groups.ensures) in
    let again = subst (λ (l : List ℕ). IsToldIn (bytes_at l place) place.terms term c.in_ok-search.search) (sym below) first in
    let ends = c.in_ok-search-2.ensures.told h again in
    let amid = subst (Goes (group_count place.terms) (length term)) c.in-Open.is c.in_ok-search-2.ensures.goes in
    stands_told here place.terms term b.low b.high b.matched b.next _
    (subst (IsToldIn here place.terms term) c.in-Open.is (subst (λ (l : List ℕ). IsToldIn (bytes_at l place) place.terms term c.in_ok-search-2.search) below ends)) amid.order amid.most
    (subst (λ (l : List ℕ). Gives c.narrow_from.result (narrow_at (b.high - b.low) (bytes_at l place) (4 * group_count place.terms) term b.low b.high b.matched b.next)) both (c.narrow_from.ensures.value h))

pub returns-in-Open-clause-most : goal.returns-in-Open-clause-most
returns-in-Open-clause-most g c =
    let amid = subst (Goes (group_count c.args.place.terms) (length c.args.term.now)) c.in-Open.is c.in_ok-search-2.ensures.goes in
    omega (arith, c.in_ok-search.ensures.left.asks, c.in_ok-search-2.ensures.left.asks, c.narrow_from.ensures.asks 26 (omega (arith, amid.order, amid.most, c.groups_of-groups.ensures)))
