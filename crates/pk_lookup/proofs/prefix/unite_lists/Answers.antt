-- One list more; at the end all of them are united.
use Rattle.std.proofs.Common.{◌≡◌, ◌<◌, ◌∙◌, ℕ, Bool, true, false, List, None, Option, Some, length, refl, sym, ap, ap₂, subst}
use Rattle.std.specs.Borrow.{Bor}
use Rattle.std.specs.List.{starts_with}
use Rattle.std.specs.Prelude.{IfSome, nat_eq}
use Rattle.std.proofs.lemmas.Result.{err_from_is_err_and}
use Rattle.pk_dict.specs.declared.entry.DictPlace.{DictPlace}
use Rattle.pk_dict.specs.declared.entry.Entry.{Entry}
use Rattle.pk_dict.specs.Cursor.{HoldsOf}
use Rattle.pk_dict.specs.Dictionary.{items_with_prefix}
use Rattle.pk_dict.specs.Place.{LiesIn, bytes_at}
use Rattle.pk_dict.specs.Prefix.{GivesNext, HasLeft, words_to_come}
use Rattle.pk_dict.specs.Seeking.{GivesAfter}
use Rattle.pk_segment.proofs.OnlyReadLemmas.{source_fault, source_none, source_still, source_then}
use Rattle.pk_segment.specs.Indexed.{items_of as items_in}
use Rattle.pk_segment.specs.Placed.{dictionary_of}
use Rattle.pk_segment.specs.Spelling.{IndexSpells}
use Rattle.pk_lookup.proofs.BegunLemmas.{Given, given_all, given_more}
use Rattle.pk_lookup.specs.Begun.{HasUnited}
use Rattle.pk_lookup.specs.Lies.{IsUnited}
use Rattle.pk_lookup.proofs.PrefixLemmas.{Remains, given_leads, remains_all, remains_more, remains_none}
use Rattle.pk_segment.proofs.PutsLemmas.{puts_fault}
use Rattle.pk_lookup.proofs.prefix.unite_lists.Goals as goal

pub returns-in_err-words-clause-numbers : goal.returns-in_err-words-clause-numbers
returns-in_err-words-clause-numbers g c = λ honest docs is of.
    let err = err_from_is_err_and c.from_residual.result c.from_residual.ensures.1 in
    puts_fault _ _ _ err.0 c.in_err-words.field-0.0 err.1 err.2 (c.in_err-words.ensures.all honest docs is of)

pub entries-init : goal.entries-init
entries-init g c =
    let B : List ℕ = bytes_at (g.S.ByteSource.content c.args.source.now) c.in_ok-words.words.cursor.place in
    let content = g.S.ByteSource.content c.args.source.now in
    let place = dictionary_of c.args.segment.now in
    record {
      left = source_none (g.met.S.ByteSource.keeps_self _);
      lies = c.in_ok-words.ensures.lies;
      sound = c.in_ok-words.ensures.sound;
      numbers = λ honest docs is of.
          let all = subst (λ (p : List ℕ). HasLeft B c.in_ok-words.words (items_in docs) (items_with_prefix p (items_in docs))) c.as_bytes.ensures.value (c.in_ok-words.ensures.all honest docs is of) in
          subst (Remains B docs c.args.prefix.now c.in_ok-words.words) (sym c.new-united.ensures) (remains_all B docs c.args.prefix.now c.in_ok-words.words all);
      place = c.in_ok-words.ensures.place;
      on = c.in_ok-words.ensures.new.1;
      prefix = c.in_ok-words.ensures.prefix ∙ c.as_bytes.ensures.value;
      holds = λ honest. c.in_ok-words.ensures.holds _;
      given = λ honest. subst (λ (begun : Bool). Given begun (bytes_at content place) place.terms c.args.prefix.now c.args.segment.now (length content) c.in_ok-words.words.cursor c.new-united.result) (sym c.in_ok-words.ensures.new.0) c.new-united.ensures;
    }

pub returns-in_err-entry-clause-numbers : goal.returns-in_err-entry-clause-numbers
returns-in_err-entry-clause-numbers g c = λ honest docs is of.
    let err = err_from_is_err_and c.from_residual-in_err-entry.result c.from_residual-in_err-entry.ensures.1 in
    let r = c.entries.invariant.numbers honest docs is of in
    puts_fault _ _ _ err.0 c.in_err-entry.field-0.0 err.1 err.2 (c.in_err-entry.ensures.gives honest (items_in docs) r.rest r.left)

pub returns-in_err-entry-clause-left : goal.returns-in_err-entry-clause-left
returns-in_err-entry-clause-left g c =
    source_fault (source_then g.met.S.ByteSource.keeps_then c.entries.invariant.left c.in_err-entry.ensures.left) c.from_residual-in_err-entry.ensures.1

pub entries-smaller : goal.entries-smaller
entries-smaller g c =
    subst (λ (o : Option Entry). IfSome o (λ _. words_to_come c.next_entry.new.words < words_to_come c.entries.words)) c.in-Some.is c.in_ok-entry.ensures.fewer

pub returns-in_err-unite_list-clause-numbers : goal.returns-in_err-unite_list-clause-numbers
returns-in_err-unite_list-clause-numbers g c = λ honest docs is of.
    let err = err_from_is_err_and c.from_residual-in_err-unite_list.result c.from_residual-in_err-unite_list.ensures.1 in
    let before = c.entries.invariant in
    let r = before.numbers honest docs is of in
    let words = c.next_entry.new.words in
    let given = subst (GivesNext (bytes_at (g.S.ByteSource.content c.entries.source) c.entries.words.cursor.place) words (items_in docs) r.rest) c.in-Some.is (c.in_ok-entry.ensures.gives honest (items_in docs) r.rest r.left) in
    let here = subst (λ (x : List ℕ). IndexSpells x docs) (sym (c.in_ok-entry.ensures.left.same honest ∙ before.left.same honest)) is in
    puts_fault _ _ _ err.0 c.in_err-unite_list.field-0.0 err.1 err.2 (c.in_err-unite_list.ensures.numbers honest docs here of.segment words.cursor.word.items (given_leads _ docs c.args.prefix.now words (items_in docs) r.rest _ r.lead given))

pub returns-in_err-unite_list-clause-left : goal.returns-in_err-unite_list-clause-left
returns-in_err-unite_list-clause-left g c =
    source_fault (source_then g.met.S.ByteSource.keeps_then (source_then g.met.S.ByteSource.keeps_then c.entries.invariant.left c.in_ok-entry.ensures.left) c.in_err-unite_list.ensures.left) c.from_residual-in_err-unite_list.ensures.1

pub entries-preserved : goal.entries-preserved
entries-preserved g c =
    let before = c.entries.invariant in
    let words = c.next_entry.new.words in
    let content = g.S.ByteSource.content in
    let read = c.in_ok-entry.ensures.left in
    let size = c.in_ok-unite_list.ensures.left.size ∙ read.size in
    let place = c.in_ok-entry.ensures.place in
    let was = c.entries.words in
    let B : List ℕ = bytes_at (content c.args.source.now) (dictionary_of c.args.segment.now) in
    let same : g.S.ByteSource.honest → bytes_at (content c.entries.source) was.cursor.place ≡ B = λ honest. ap₂ bytes_at (before.left.same honest) before.place in
    let here_holds : g.S.ByteSource.honest → HoldsOf (bytes_at (content c.entries.source) was.cursor.place) was.cursor = λ honest. subst (λ (b : List ℕ). HoldsOf b was.cursor) (sym (same honest)) (before.holds honest) in
    let prefix : words.prefix.now ≡ c.args.prefix.now = ap (λ (p : Bor (List ℕ)). p.now) c.in_ok-entry.ensures.prefix ∙ before.prefix in
    let goes = subst (λ (o : Option Entry). IfSome o (λ _. (words.begun ≡ true) × (words.ended ≡ false))) c.in-Some.is c.in_ok-entry.ensures.goes in
    record {
      left = source_still (source_then g.met.S.ByteSource.keeps_then (source_then g.met.S.ByteSource.keeps_then before.left read) c.in_ok-unite_list.ensures.left) (λ f. cc);
      lies = subst (λ p. LiesIn p (length (content c.unite_list.new.source))) (sym place) (subst (LiesIn c.entries.words.cursor.place) (sym size) before.lies);
      sound = c.in_ok-entry.ensures.sound refl;
      numbers = λ honest docs is of.
          let r = before.numbers honest docs is of in
          let given = subst (GivesNext (bytes_at (content c.entries.source) c.entries.words.cursor.place) words (items_in docs) r.rest) c.in-Some.is (c.in_ok-entry.ensures.gives honest (items_in docs) r.rest r.left) in
          let here = subst (λ (x : List ℕ). IndexSpells x docs) (sym (read.same honest ∙ before.left.same honest)) is in
          let list = c.in_ok-unite_list.ensures.numbers honest docs here of.segment words.cursor.word.items (given_leads _ docs c.args.prefix.now words (items_in docs) r.rest _ r.lead given) in
          let bytes : bytes_at (content c.entries.source) c.entries.words.cursor.place ≡ bytes_at (content c.unite_list.new.source) words.cursor.place = ap (λ (l : List ℕ). bytes_at l c.entries.words.cursor.place) (sym (c.in_ok-unite_list.ensures.left.same honest ∙ read.same honest)) ∙ ap (bytes_at (content c.unite_list.new.source)) (sym place) in
          subst (λ (b : List ℕ). Remains b docs c.args.prefix.now words c.unite_list.new.united) bytes (remains_more _ _ docs c.args.prefix.now c.entries.words words _ _ _ _ r given refl list);
      place = place ∙ before.place;
      on = goes.1;
      prefix = prefix;
      holds = λ honest. subst (λ (b : List ℕ). HoldsOf b words.cursor) (same honest) (c.in_ok-entry.ensures.holds honest (here_holds honest));
      given = λ honest.
          let said = subst (GivesAfter was.begun (bytes_at (content c.entries.source) was.cursor.place) was.prefix.now was.cursor words.cursor) c.in-Some.is (c.in_ok-entry.ensures.said honest (here_holds honest) before.on) in
          let there = subst (λ (b : List ℕ). GivesAfter was.begun b was.prefix.now was.cursor words.cursor (Some c.in-Some.entry)) (same honest) said in
          let after = subst (λ (p : List ℕ). GivesAfter was.begun B p was.cursor words.cursor (Some c.in-Some.entry)) before.prefix there in
          let begins = subst (λ (o : Option Entry). IfSome o (λ entry. (starts_with nat_eq words.cursor.word.items words.prefix.now ≡ true) × (entry ≡ words.cursor.entry))) c.in-Some.is c.in_ok-entry.ensures.begins in
          subst (λ (begun : Bool). Given begun B (dictionary_of c.args.segment.now).terms c.args.prefix.now c.args.segment.now (length (content c.args.source.now)) words.cursor c.unite_list.new.united) (sym goes.0)
          (given_more was.begun B (dictionary_of c.args.segment.now).terms c.args.prefix.now c.args.segment.now (length (content c.args.source.now)) was.cursor words.cursor c.in-Some.entry c.entries.united c.unite_list.new.united
          (ap (λ (p : DictPlace). p.terms) (place ∙ before.place)) (before.given honest) after
          (subst (λ (p : List ℕ). starts_with nat_eq words.cursor.word.items p ≡ true) prefix begins.0, begins.1)
          (subst (λ (n : ℕ). IsUnited c.args.segment.now c.in-Some.entry n c.entries.united c.unite_list.new.united) (read.size ∙ before.left.size) c.in_ok-unite_list.ensures.read));
    }

pub returns-in_err-finish-clause-left : goal.returns-in_err-finish-clause-left
returns-in_err-finish-clause-left g c =
    source_fault {U = Unit {0}} (source_still (source_then g.met.S.ByteSource.keeps_then c.entries.invariant.left c.in_ok-entry.ensures.left) (λ disk. cc)) c.from_residual-in_err-finish.ensures.1

pub returns-clause-left : goal.returns-clause-left
returns-clause-left g c = source_still (source_then g.met.S.ByteSource.keeps_then c.entries.invariant.left c.in_ok-entry.ensures.left) (λ disk. cc)

pub returns-clause-numbers : goal.returns-clause-numbers
returns-clause-numbers g c = λ honest docs is of.
    let r = c.entries.invariant.numbers honest docs is of in
    let none = subst (GivesNext (bytes_at (g.S.ByteSource.content c.entries.source) c.entries.words.cursor.place) c.next_entry.new.words (items_in docs) r.rest) c.in_default.is (c.in_ok-entry.ensures.gives honest (items_in docs) r.rest r.left) in
    remains_none _ docs c.args.prefix.now c.entries.words _ _ is.front.spelled.are.rising r none.0 c.in_ok-finish.ensures.numbers c.in_ok-finish.ensures.rising

pub returns-clause-read : goal.returns-clause-read
returns-clause-read g c = λ honest.
    let before = c.entries.invariant in
    let content = g.S.ByteSource.content in
    let was = c.entries.words in
    let words = c.next_entry.new.words in
    let B : List ℕ = bytes_at (content c.args.source.now) (dictionary_of c.args.segment.now) in
    let same : bytes_at (content c.entries.source) was.cursor.place ≡ B = ap₂ bytes_at (before.left.same honest) before.place in
    let holds = subst (λ (b : List ℕ). HoldsOf b was.cursor) (sym same) (before.holds honest) in
    let said = subst (GivesAfter was.begun (bytes_at (content c.entries.source) was.cursor.place) was.prefix.now was.cursor words.cursor) c.in_default.is (c.in_ok-entry.ensures.said honest holds before.on) in
    let there = subst (λ (b : List ℕ). GivesAfter was.begun b was.prefix.now was.cursor words.cursor None) same said in
    let after = subst (λ (p : List ℕ). GivesAfter was.begun B p was.cursor words.cursor None) before.prefix there in
    let terms = (dictionary_of c.args.segment.now).terms in
    let all = given_all was.begun B terms c.args.prefix.now c.args.segment.now (length (content c.args.source.now)) was.cursor words.cursor c.entries.united
    (ap (λ (p : DictPlace). p.terms) before.place) (ap (λ (p : DictPlace). p.terms) (c.in_ok-entry.ensures.place ∙ before.place)) (before.given honest) after in
    subst (HasUnited (content c.args.source.now) c.args.segment.now c.args.prefix.now) (sym c.in_ok-finish.ensures.numbers)
    (record { words = all.words; are = all.are; united = all.united })
