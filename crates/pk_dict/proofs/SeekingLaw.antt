-- A search goes word by word from a group on and leaves out none, whatever the bytes.
use Rattle.std.proofs.Common.{arith, refl, sym, ap, subst, ◌∙◌, ◌≡◌, ◌≤◌, ◌+◌, ◌*◌, ◌++◌, ◌∷◌, [], ℕ, suc, List, length, Ok, Err, Result, Bool, true, false}
use Rattle.std.specs.List.{AllByRecursion}
use Rattle.std.proofs.lemmas.List.{length-append}
use Rattle.std.specs.Prelude.{IfOk}
use Rattle.pk_posting.specs.declared.fault.ReadFault.{ReadFault}
use Rattle.pk_posting.specs.declared.source.SourceFault.{SourceFault}
use Rattle.pk_dict.specs.declared.cursor.TermCursor.{TermCursor}
use Rattle.pk_dict.specs.declared.entry.DictPlace.{DictPlace}
use Rattle.pk_dict.specs.declared.entry.Entry.{Entry}
use Rattle.pk_dict.specs.Cursor.{HasRead, IsBelow, item_at}
use Rattle.pk_dict.specs.Dictionary.{Item}
use Rattle.pk_dict.specs.Lists.{last_of}
use Rattle.pk_dict.specs.Order.{less}
use Rattle.pk_dict.specs.Said.{GoesOn}
use Rattle.pk_dict.specs.Seeking.{HasPassed, HasSought, IsToldStart, PassesNext, words_from}
use Rattle.pk_dict.specs.Words.{word_at}
use Rattle.pk_dict.proofs.Adding.{last_push}
use Rattle.pk_dict.proofs.Sought.{below_push}

abbrev passed_to : List Item → ℕ → Result (List Item × ℕ) SourceFault
passed_to es at = Ok (es, at)

abbrev pushed : List Item → List ℕ × Entry × ℕ → Result (List Item × ℕ) SourceFault
pushed es t = Ok (es ++ record { term = t.0; entry = t.1 } ∷ [], t.2)

-- one word more
words_then : (bytes : List ℕ) (i at n : ℕ) (es : List Item) (next : ℕ) (t : List ℕ × Entry × ℕ) → words_from bytes i at n ≡ Ok (es, next) → word_at bytes (i + n) (last_of [] es) next ≡ Ok t → words_from bytes i at (suc n) ≡ pushed es t
unfolding words_from
words_then bytes i at n es next t so_far one = rw so_far (rw one refl)

-- a search on its way: it read words in turn that are less than another
pub record Seeks (bytes : List ℕ) (c : TermCursor) (word : List ℕ) : Type 0 where
  pub group : ℕ
  pub at : ℕ
  pub start : IsToldStart bytes c.place.terms word group at
  pub es : List Item
  pub passed : HasPassed bytes c group at es
  pub last : c.word.items ≡ last_of [] es
  pub below : AllByRecursion (IsBelow word) es

none_read : (bytes : List ℕ) (i at next : ℕ) → next ≡ at → words_from bytes i at 0 ≡ Ok ([], next)
unfolding words_from
none_read bytes i at next e = ap (passed_to []) (sym e)

-- at the start of a group
pub seeks_first : (bytes : List ℕ) (c : TermCursor) (word : List ℕ) (group at : ℕ) → IsToldStart bytes c.place.terms word group at → c.read ≡ 16 * group → c.at ≡ at → c.word.items ≡ [] → Seeks bytes c word
seeks_first bytes c word group at start read from none = record {
  group = group;
  at = at;
  start = start;
  es = [];
  passed = record { read = omega (arith, read); said = none_read bytes (16 * group) at c.at from };
  last = none;
  below = tt;
}

-- a cursor passes one word more
pub passed_more : (bytes : List ℕ) (c d : TermCursor) (group at : ℕ) (es : List Item) → HasPassed bytes c group at es → c.word.items ≡ last_of [] es → HasRead bytes c d → d.read ≡ c.read + 1 → HasPassed bytes d group at (es ++ item_at d ∷ [])
passed_more bytes c d group at es p last read more =
    let size : length (es ++ item_at d ∷ []) ≡ suc (length es) = omega (arith, length-append es (item_at d ∷ [])) in
    let next : word_at bytes (16 * group + length es) (last_of [] es) c.at ≡ Ok (d.word.items, d.entry, d.at) =
    ap (λ (i : ℕ). word_at bytes i (last_of [] es) c.at) (sym p.read) ∙ ap (λ (w : List ℕ). word_at bytes c.read w c.at) (sym last) ∙ read in
    record {
      read = omega (arith, size, p.read, more);
      said = ap (words_from bytes (16 * group) at) size
          ∙ words_then bytes (16 * group) at (length es) es c.at (d.word.items, d.entry, d.at) p.said next;
    }

abbrev start_of : (bytes : List ℕ) (word : List ℕ) (group at : ℕ) → DictPlace → Type 0
start_of bytes word group at p = IsToldStart bytes p.terms word group at

-- it passes one word more that is less
pub seeks_more : (bytes : List ℕ) (c d : TermCursor) (word : List ℕ) → Seeks bytes c word → HasRead bytes c d → d.read ≡ c.read + 1 → d.place ≡ c.place → less d.word.items word ≡ true → Seeks bytes d word
seeks_more bytes c d word s read more place l = record {
  group = s.group;
  at = s.at;
  start = subst (start_of bytes word s.group s.at) (sym place) s.start;
  es = s.es ++ item_at d ∷ [];
  passed = passed_more bytes c d s.group s.at s.es s.passed s.last read more;
  last = sym (last_push [] s.es (item_at d));
  below = below_push word s.es (item_at d) s.below l;
}

-- or one that is not
pub seeks_found : (bytes : List ℕ) (c d : TermCursor) (word : List ℕ) → Seeks bytes c word → HasRead bytes c d → d.read ≡ c.read + 1 → d.place ≡ c.place → less d.word.items word ≡ false → HasSought bytes d word true
seeks_found bytes c d word s read more place l = record {
  group = s.group;
  at = s.at;
  start = λ some. subst (start_of bytes word s.group s.at) (sym place) s.start;
  passed = s.es;
  below = s.below;
  stops = (passed_more bytes c d s.group s.at s.es s.passed s.last read more, l);
}

-- or there is none more
pub seeks_all : (bytes : List ℕ) (c : TermCursor) (word : List ℕ) → Seeks bytes c word → c.place.terms ≤ c.read → HasSought bytes c word false
seeks_all bytes c word s all = record {
  group = s.group;
  at = s.at;
  start = λ some. s.start;
  passed = s.es;
  below = s.below;
  stops = (s.passed, omega (arith, all));
}

-- of no words none is left out
pub seeks_none : (bytes : List ℕ) (c : TermCursor) (word : List ℕ) → c.place.terms ≡ 0 → HasSought bytes c word false
seeks_none bytes c word none =
    let read : c.read ≡ 0 = omega (arith, none, c.order) in
    record {
      group = 0;
      at = c.at;
      start = λ some. absurd (omega (arith, none, some));
      passed = [];
      below = tt;
      stops = (record { read = omega (arith, read); said = none_read bytes 0 c.at c.at refl }, omega (arith, none));
    }

-- ---- a cursor that goes on

pub passes_next : (bytes : List ℕ) (old new : TermCursor) (r : Result Bool ReadFault) → (r ≡ Ok true → HasRead bytes old new) → IfOk r (GoesOn old new) → IfOk r (PassesNext bytes old new)
passes_next bytes old new (Ok true) read on = (read refl, on)
passes_next bytes old new (Ok false) read on = omega (arith, on.1)
passes_next bytes old new (Err e) read on = tt
