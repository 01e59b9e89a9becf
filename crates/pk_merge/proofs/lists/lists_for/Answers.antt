-- Lists that were kept are those of the words; else there is room for the longest.
use Rattle.std.proofs.Common.{◌∙◌, List, refl, sym, subst, arith}
use Rattle.pk_join.specs.Listed.{ListSource}
use Rattle.pk_join.proofs.RoomLemmas.{roomy_there}
use Rattle.pk_join.specs.Walking.{AreListed, CanHold}
use Rattle.pk_model.specs.Terms.{terms_of}
use Rattle.pk_segment.proofs.PlanLemmas.{lists_all}
use Rattle.pk_state.specs.Committed.{live_in}
use Rattle.pk_merge.proofs.lists.lists_for.Goals as goal

pub returns-clause-lists : goal.returns-clause-lists
returns-clause-lists c = λ bytes inputs stored gone has. record {
  listed = subst (λ (ls : List ListSource). AreListed inputs ls stored) (sym c.restart.ensures.same.lists) gone.listed;
  can = subst (CanHold stored) (sym c.restart.ensures.same.room) gone.can;
  roomy = λ other spells.
      let walk = c.restart.new.self in
      roomy_there bytes other inputs walk.inputs.items stored (gone.extents ∙ sym c.restart.ensures.same.extents)
      (subst (λ (ls : List ListSource). AreListed inputs ls stored) (sym c.restart.ensures.same.lists) gone.listed)
      gone.spells spells (c.in_ok-restart.ensures.roomy bytes gone.hold c.requires.ended);
  enough = λ k d within. omega (
    arith,
    has.longest_is k d within,
    c.longest_list-longest.ensures,
    c.in_ok-encoded.ensures.len,
    c.in_ok-encoded.encoded.ok,
  );
  no_more = λ n most. omega (
    arith,
    has.no_longer n most,
    c.longest_list-longest.ensures,
    c.in_ok-encoded.ensures.len,
    c.in_ok-encoded.encoded.ok,
  );
}

pub returns-in-Some-clause-lists : goal.returns-in-Some-clause-lists
returns-in-Some-clause-lists c = λ bytes inputs stored gone has.
    let docs = live_in stored in
    has.lists_are c.in-Some.bytes (sym c.take_lists.ensures.lists ∙ c.in-Some.is)
    ∙ lists_all docs (terms_of docs) refl
