-- From the answers of the checker and the builder to the grammar.
use Rattle.std.proofs.Common.{◌≡◌, ℕ, List, Option, Some, None, Result, Ok, Err, sym, ap, subst, ◌∙◌, MatchOption}
use Rattle.std.specs.Str.{IsUtf8}
use Rattle.pk_model.specs.Tree.{Tree}
use Rattle.pk_query.specs.Tokens.{tokens}
use Rattle.pk_query.specs.Grammar.{Reads}
use Rattle.pk_query.specs.Depth.{IsWithinLimits}
use Rattle.pk_query.specs.declared.fault.QueryFault.{QueryFault}
use Rattle.pk_query.specs.declared.fault.QueryFault.TheVariants.{TooLong, TooDeep, NoWord, Unexpected, Unclosed, Memory}
use Rattle.pk_query.specs.Machine.{run, verdict}
use Rattle.pk_query.specs.Check.{first_fault}
use Rattle.pk_query.specs.BuildView.{finished}
use Rattle.pk_query.specs.Refusals.{IsQuery, IsFaultOf, Refuses}
use Rattle.pk_query.proofs.Faults.{start, accepts_read, one_reading}
use Rattle.pk_query.proofs.Sound.{sound}
use Rattle.pk_query.proofs.Verdict.{IsVerdictOf, verdict_holds, verdict_reads}
use Rattle.pk_query.proofs.Once.{one_refusal}
use Rattle.pk_query.proofs.Light.{faulty, fault_is}

none_found : (text : List ℕ) (r : Result Tree QueryFault) → faulty r ≡ None → IsVerdictOf text r → (q : Tree) × Reads text q
none_found text (Ok q) e t = (q, t)
none_found text (Err f) e t = cc

pub no_fault : (text : List ℕ) → IsUtf8 text → first_fault text ≡ None → (q : Tree) × Reads text q
no_fault text u e = none_found text (verdict text) (sym (fault_is text) ∙ e) (verdict_holds text u)

some_found : (text : List ℕ) (r : Result Tree QueryFault) (f : QueryFault) → faulty r ≡ Some f → IsVerdictOf text r → IsVerdictOf text (Err f)
some_found text (Ok q) f e t = cc
some_found text (Err g) f e t = let h : g ≡ f = cc in let P : QueryFault → Type 0 = λ x. IsVerdictOf text (Err x) in subst P h t

pub some_fault : (text : List ℕ) (f : QueryFault) → IsUtf8 text → first_fault text ≡ Some f → IsVerdictOf text (Err f)
some_fault text f u e = some_found text (verdict text) f (sym (fault_is text) ∙ e) (verdict_holds text u)

-- a text that has a fault reads as no query
pub fault_reads : (text : List ℕ) (f : QueryFault) (q : Tree) → first_fault text ≡ Some f → Reads text q → ⊥
fault_reads text f q e d = let h : None ≡ Some f = sym (ap faulty (verdict_reads text q d)) ∙ sym (fault_is text) ∙ e in cc

pub finished_reads : (text : List ℕ) (q : Tree) → Reads text q → finished (run start (tokens text)) ≡ Some q
finished_reads text q d =
    let w = accepts_read (tokens text) q d in
    ap finished w.2 ∙ ap Some (one_reading (tokens text) _ q (sound (tokens text) w.0 w.1 w.2) d)

-- what is built is what the text reads as
pub built : (text : List ℕ) (q t : Tree) → Reads text q → finished (run start (tokens text)) ≡ Some t → t ≡ q
built text q t d e = let h : Some t ≡ Some q = sym e ∙ finished_reads text q d in cc

pub gets : (text : List ℕ) (f : QueryFault) → IsWithinLimits text → IsVerdictOf text (Err f) → IsFaultOf text f
gets text TooLong w t = absurd t
gets text TooDeep w t = absurd t
gets text Memory w t = absurd t
gets text (NoWord n) w t = (w, t)
gets text (Unexpected n) w t = (w, t)
gets text (Unclosed n) w t = (w, t)

-- a fault without memory is a refusal
pub refuses : (text : List ℕ) (f : QueryFault) → IsFaultOf text f → Refuses text f
refuses text TooLong h = h
refuses text TooDeep h = h
refuses text (NoWord n) h = h
refuses text (Unexpected n) h = h
refuses text (Unclosed n) h = h
refuses text Memory h = absurd h

-- a text that has a fault is no query
pub fault_query : (text : List ℕ) (f : QueryFault) (q : Tree) → IsUtf8 text → IsFaultOf text f → IsQuery text q → ⊥
fault_query text f q u h d =
    let e = one_refusal text f Memory u (refuses text f h) (q, d) in
    let P : QueryFault → Type 0 = λ g. IsFaultOf text g in
    subst P e h

-- the fault that is found, or none
pub found : (text : List ℕ) (r : Option QueryFault) → IsUtf8 text → IsWithinLimits text → r ≡ first_fault text → MatchOption r ((q : Tree) × IsQuery text q) (IsFaultOf text)
found text None u w e = let t = no_fault text u (sym e) in (t.0, (w, t.1))
found text (Some f) u w e = gets text f w (some_fault text f u (sym e))
