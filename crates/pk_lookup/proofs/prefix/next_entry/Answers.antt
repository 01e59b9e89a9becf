-- The next word as the source has it; what windows over the source give, it has.
use Rattle.std.proofs.Common.{ap, sym, subst, List, ℕ, Option, Result}
use Rattle.std.specs.Prelude.{MatchResult}
use Rattle.std.proofs.lemmas.Result.{err_from_is_err_and}
use Rattle.pk_dict.specs.declared.entry.Entry.{Entry}
use Rattle.pk_dict.specs.Cursor.{HoldsOf}
use Rattle.pk_dict.specs.Place.{bytes_at}
use Rattle.pk_dict.specs.Prefix.{GivesNext, HasLeft}
use Rattle.pk_dict.specs.Seeking.{GivesAfter}
use Rattle.pk_posting.specs.declared.fault.ReadFault.{ReadFault}
use Rattle.pk_segment.specs.Reading.{IsNoDamage}
use Rattle.pk_segment.proofs.ListingLemmas.{entries_cause}
use Rattle.pk_lookup.proofs.prefix.next_entry.Goals as goal

pub returns-in_err-next-clause-gives : goal.returns-in_err-next-clause-gives
returns-in_err-next-clause-gives g c = λ honest es rest left.
    let found = err_from_is_err_and c.from_residual.result c.from_residual.ensures.1 in
    subst (λ (r : Result (Option Entry) ReadFault). MatchResult r (GivesNext (bytes_at (g.S.ByteSource.content c.args.source.now) c.args.words.now.cursor.place) c.next.new.self es rest) IsNoDamage) (sym found.1)
    (entries_cause c.in_err-next.field-0.0 (c.in_err-next.ensures.gives honest es rest left) found.0 found.2)

pub returns-in_err-entry-clause-gives : goal.returns-in_err-entry-clause-gives
returns-in_err-entry-clause-gives g c = λ honest es rest left.
    let found = err_from_is_err_and c.from_residual-in_err-entry.result c.from_residual-in_err-entry.ensures.1 in
    let place = c.args.words.now.cursor.place in
    let same = ap (λ s. bytes_at (g.S.ByteSource.content s) place) c.on-windows.ensures.source in
    subst (λ (r : Result (Option Entry) ReadFault). MatchResult r (GivesNext (bytes_at (g.S.ByteSource.content c.args.source.now) place) c.next-2.new.self es rest) IsNoDamage) (sym found.1)
    (entries_cause c.in_err-entry.field-0.0 (c.in_err-entry.ensures.gives honest es rest (subst (λ (b : List ℕ). HasLeft b c.args.words.now es rest) (sym same) left)) found.0 found.2)

pub returns-clause-gives : goal.returns-clause-gives
returns-clause-gives g c = λ honest es rest left.
    let place = c.args.words.now.cursor.place in
    let same = ap (λ s. bytes_at (g.S.ByteSource.content s) place) c.on-windows.ensures.source in
    subst (λ (b : List ℕ). GivesNext b c.next-2.new.self es rest c.in_ok-entry.entry) same (c.in_ok-entry.ensures.gives honest es rest (subst (λ (b : List ℕ). HasLeft b c.args.words.now es rest) (sym same) left))

-- so they hold and give of any bytes
pub returns-clause-holds : goal.returns-clause-holds
returns-clause-holds g c = λ honest holds.
    let place = c.args.words.now.cursor.place in
    let same = ap (λ s. bytes_at (g.S.ByteSource.content s) place) c.on-windows.ensures.source in
    subst (λ (b : List ℕ). HoldsOf b c.next-2.new.self.cursor) same (c.in_ok-entry.ensures.holds honest (subst (λ (b : List ℕ). HoldsOf b c.args.words.now.cursor) (sym same) holds))

pub returns-clause-said : goal.returns-clause-said
returns-clause-said g c = λ honest holds on.
    let place = c.args.words.now.cursor.place in
    let words = c.args.words.now in
    let same = ap (λ s. bytes_at (g.S.ByteSource.content s) place) c.on-windows.ensures.source in
    subst (λ (b : List ℕ). GivesAfter words.begun b words.prefix.now words.cursor c.next-2.new.self.cursor c.in_ok-entry.entry) same (c.in_ok-entry.ensures.said honest (subst (λ (b : List ℕ). HoldsOf b words.cursor) (sym same) holds) on)
