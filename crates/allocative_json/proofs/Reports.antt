-- How reports of roots are reports of an input, and how their errors are those of a run.
use Rattle.std.proofs.Common.{◌≡◌, ℕ, ◌<◌, ℤ, length, arith, Bool, true, List, [], ◌∷◌, Option, Some, Result, Ok, Err}
use Rattle.std.proofs.Common.{IfOk, IfErr, IsErrAnd, IfSome, MatchResult, refl, ap, ◌∙◌, sym, subst, inl, inr, BTreeSet}
use Rattle.allocative_json.proofs.Common.{view, Value, Showing, roots_show, Word, AreWords, list_all, IfOk-weaker}
use Rattle.allocative_json.proofs.Common.{IfErr-weaker, Data, fault_of, Nothing, Both, each_shows, Fault, AreTexts, IsReportOf}
use Rattle.allocative_json.proofs.Common.{IsRightReport, RefusesRoots, RefusesReport, IsReportFor, MayEndRun, Asks}
use Rattle.std.proofs.lemmas.Option.{IfSome_then}
use Rattle.serde_json.specs.Read.{read}
use Rattle.serde_json.proofs.OnLiterals.{serde_json_on_literals}
use Rattle.allocative.specs.Refusal.{Refusal}
use Rattle.allocative.specs.Forest.{Forest, followed_by}
use Rattle.allocative.specs.Strict.{CanBeProfiled, MayRefuseProfile}
use Rattle.allocative.proofs.Strict.{each_one, followed_by-empty}
use Rattle.allocative.specs.Visits.{Profile, IsProfileOf}
use Rattle.allocative_json.specs.declared.fault.Fault.TheVariants.{Memory, TooLarge, Reading, Writing, Open}
use Rattle.allocative_json.specs.declared.profile.Report.{Report}
use Rattle.allocative_json.specs.declared.words.Words.{Words}
use Rattle.allocative_json.specs.Roots.{IsDocument, AreRoots}
use Rattle.allocative.specs.Refusal.TheVariants as refused
use Rattle.allocative_json.specs.declared.fault.Fault.TheVariants as fault

-- ---- reports of roots
-- The texts of a profile of what p allows are a report of it.
pub report_made : (p : Showing) (exact : Bool) (o : Profile) (r : Result Report Fault) → IsProfileOf p o
    → MatchResult r (AreTexts exact o) (λ f. f ≡ Memory) → IfOk r (IsReportOf p exact)
report_made p exact o (Ok made) h t = record { output = o; is_profile = h; texts = t }
report_made p exact o (Err f) h t = tt

-- Making the texts fails only when memory runs out.
pub refused_texts : (p : Showing) (exact : Bool) (o : Profile) (r : Result Report Fault) →
    MatchResult r (AreTexts exact o) (λ f. f ≡ Memory) → IfErr r (RefusesRoots p)
refused_texts p exact o (Ok made) m = tt
refused_texts p exact o (Err f) m = subst (RefusesRoots p) (sym m) tt

-- A refusal of a profile is a fault that may come for its roots.
refused_so : (p : Showing) (r : Refusal) → MayRefuseProfile true p r → RefusesRoots p (fault_of r)
refused_so p refused.Memory h = tt
refused_so p refused.TooLarge h = elim (h refl) [ inl e ↦ absurd (cc) | inr w ↦ w.1 ]
refused_so p refused.Open h = elim (h refl) [ inl e ↦ absurd (cc) | inr w ↦ absurd (cc) ]

-- A profile was refused.
pub refused_profile : {T : Type 0} (p : Showing) (refusal : Refusal) (r : Result T Fault) →
    IsErrAnd r (λ f. f ≡ fault_of refusal) → MayRefuseProfile true p refusal → IfErr r (RefusesRoots p)
refused_profile p refusal (Ok x) e h = tt
refused_profile p refusal (Err f) e h = subst (RefusesRoots p) (sym e) (refused_so p refusal h)

-- ---- input
-- No document is empty.
nothing_read : (d : Data) → read [] ≡ Some d → ⊥
unfolding serde_json_on_literals
nothing_read d e = cc

-- The text of a document is not empty.
pub some_text : (input : List ℕ) (d : Data) → IsDocument input d → 0 < length input
some_text [] d h = absurd (nothing_read d h.is_read)
some_text (b ∷ bs) d h = omega arith

-- A fault of the roots is one of their input.
refused_roots : (input : List ℕ) (index : Bool) (v : Value) (n : Option (BTreeSet ℤ)) (f : Fault) →
    AreRoots input index (view v) n → RefusesRoots (roots_show v n) f → RefusesReport input index f
refused_roots input index v n Memory h r = some_text input (view v) h.document
refused_roots input index v n TooLarge h r = (v, n, h, r)
refused_roots input index v n f h r = absurd r

-- A report of the roots of the input was refused.
pub refused_report : {T : Type 0} (input : List ℕ) (index : Bool) (v : Value) (n : Option (BTreeSet ℤ))
    (r : Result T Fault) → AreRoots input index (view v) n → IfErr r (RefusesRoots (roots_show v n)) →
    IfErr r (RefusesReport input index)
refused_report input index v n r h = IfErr-weaker r _ _ (λ f. refused_roots input index v n f h)

-- ---- boxed roots
-- If each forest of one showing is one of another, a profile of the first is a profile of the second.
profile_weaker : (p q : Showing) (o : Profile) → ((f : Forest) → p f → q f) → IsProfileOf p o → IsProfileOf q o
profile_weaker p q o up h = record {
  shown = h.shown;
  allowed = up h.shown h.allowed;
  whole = h.whole;
  reaches = h.reaches;
  meaning = h.meaning;
  graph_is = h.graph_is;
  warnings_are = h.warnings_are;
  warned_are = h.warned_are;
}

-- What a list of two shows is what both show.
two_shown : {T : Type 0} (p : T → Showing) (a b : T) (f : Forest) → each_shows p (a ∷ b ∷ []) f → Both (p a) (p b) f
two_shown p a b f (g, h, here, (k, none, there, empty, e), d) =
    (g, k, here, there, d ∙ ap (followed_by g) (e ∙ ap (followed_by k) empty ∙ followed_by-empty k))

-- What two show is what the list of both shows.
both_shown : {T : Type 0} (p : T → Showing) (a b : T) (f : Forest) → Both (p a) (p b) f → each_shows p (a ∷ b ∷ []) f
both_shown p a b f (g, h, here, there, e) = (g, h, here, each_one p b h there, e)

-- Roots of strict types, each with what it shows and whether it is strict.
module _ {T : Type 0} (shows : T → Showing × Bool) (roots : List T) (x : Result Profile Refusal) where
  -- The profile is one of what p allows, and an error is one that may refuse it.
  abbrev IsProfiledAs : Bool → Showing → Type 0
  IsProfiledAs is_strict p =
      record { profile : IfOk x (IsProfileOf p); refused : IfErr x (MayRefuseProfile is_strict p) }

  -- The profile of all roots.
  abbrev IsProfiled : Type 0
  IsProfiled = IsProfiledAs (list_all (λ y. (shows y).1) roots) (each_shows (λ y. (shows y).0) roots)

  -- The profile of two roots is one of what both show, and is refused only if both together may be.
  pub two_profiled : (a b : T) (q r : Showing) → roots ≡ a ∷ b ∷ [] → shows a ≡ (q, true) → shows b ≡ (r, true) →
      IsProfiled → IsProfiledAs true (Both q r)
  two_profiled a b q r is first last h =
      let p : T → Showing = λ y. (shows y).0 in
      let can : CanBeProfiled (Both (p a) (p b)) → CanBeProfiled (each_shows p (a ∷ b ∷ [])) =
      λ w. ((w.0.0, both_shown p a b w.0.0 w.0.1, w.0.2), λ f y. w.1 f (two_shown p a b f y)) in
      let strict = ap (λ (y : Showing × Bool). y.1) first in
      let other = ap (λ (y : Showing × Bool). y.1) last in
      rw (← ap (λ (y : Showing × Bool). y.0) first, ← ap (λ (y : Showing × Bool). y.0) last) (record {
        profile = IfOk-weaker x _ _ (λ o g. profile_weaker (each_shows p (a ∷ b ∷ [])) (Both (p a) (p b)) o
            (two_shown p a b) g) (rw is at h.profile);
        refused = IfErr-weaker x _ _ (λ e g _. elim (g refl) [
          | inl m ↦ inl m
          | inr w ↦ inr (w.0, λ both. w.1 (can both))
        ]) (rw (is, strict, other) at h.refused);
      })

  -- The profile of one root is one of what it shows, followed by nothing, and is refused only if that may be.
  pub one_profiled : (a : T) (q : Showing) → roots ≡ a ∷ [] → shows a ≡ (q, true) → IsProfiled →
      IsProfiledAs true (Both q Nothing)
  one_profiled a q is first h =
      let strict = ap (λ (y : Showing × Bool). y.1) first in
      rw (← ap (λ (y : Showing × Bool). y.0) first)
      (record { profile = rw is at h.profile; refused = rw (is, strict) at h.refused })

-- ---- reports of a run
-- A right report of the input that was read is one for the reader's bytes.
pub report_for : (texts : List Word) (known : Option (List ℕ)) (input : List ℕ) (asked : Words)
    (r : Result Report Fault) → AreWords texts → Asks texts asked → IfSome known (λ bytes. input ≡ bytes) →
    IfOk r (IsRightReport input asked.index asked.exact) → IfOk r (IsReportFor texts known)
report_for texts known input asked r w a e =
    IfOk-weaker r _ _ (λ made h. record { words = w; asked = asked; asks = a; input = input; is_read = e; right = h })

-- ---- refusals of a run
-- A fault of the report may end the run.
refused_run : (texts : List Word) (known : Option (List ℕ)) (input : List ℕ) (asked : Words) (f : Fault) →
    AreWords texts → Asks texts asked → IfSome known (λ bytes. input ≡ bytes) → RefusesReport input asked.index f →
    MayEndRun texts known f
refused_run texts known input asked fault.Words w a e h = absurd h.3
refused_run texts known input asked Reading w a e h = absurd h.3
refused_run texts known input asked Writing w a e h = absurd h.3
refused_run texts known input asked Open w a e h = absurd h.3
refused_run texts known input asked f w a e h =
    (w, (asked, a, IfSome_then known e (λ bytes is. subst (λ (b : List ℕ). RefusesReport b asked.index f) is h)))

-- A fault of making the report of the input that was read may end the run.
pub refuses_run : {T : Type 0} (texts : List Word) (known : Option (List ℕ)) (input : List ℕ) (asked : Words)
    (r : Result T Fault) → AreWords texts → Asks texts asked → IfSome known (λ bytes. input ≡ bytes) →
    IfErr r (RefusesReport input asked.index) → IfErr r (MayEndRun texts known)
refuses_run texts known input asked r w a e = IfErr-weaker r _ _ (λ f h. refused_run texts known input asked f w a e h)

-- The lemmas by which a profile and its errors are those of a report.
pub ruleset reporting = (report_made, refused_profile, refused_texts)
