-- The search among all groups.
use Rattle.std.proofs.Common.{arith, subst, ◌≡◌, ◌-◌, ◌*◌, ℕ}
use Rattle.pk_dict.specs.Dictionary.{group_count}
use Rattle.pk_dict.specs.LookUp.{narrow_at}
use Rattle.pk_dict.specs.Place.{bytes_at}
use Rattle.pk_dict.specs.Reading.{Gives}
use Rattle.pk_dict.proofs.look_up.narrow.Goals as goal

pub returns-clause-value : goal.returns-clause-value
returns-clause-value g c h =
    let whole : group_count c.args.place.terms - 0 ≡ group_count c.args.place.terms = omega arith in
    subst (λ (n : ℕ). Gives c.narrow_from.result (narrow_at n (bytes_at (g.S.ByteSource.content c.args.source.now) c.args.place) (4 * group_count c.args.place.terms) c.args.term.now 0 (group_count c.args.place.terms) 0 0)) whole
    (subst (λ (n : ℕ). Gives c.narrow_from.result (narrow_at (n - 0) (bytes_at (g.S.ByteSource.content c.args.source.now) c.args.place) (4 * group_count c.args.place.terms) c.args.term.now 0 n 0 0)) c.groups_of.ensures (c.narrow_from.ensures.value h))

pub returns-clause-asks : goal.returns-clause-asks
returns-clause-asks g c k h = c.narrow_from.ensures.asks k (omega (arith, h, c.groups_of.ensures))
