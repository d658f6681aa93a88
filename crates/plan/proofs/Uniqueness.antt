-- A text has one reading.
use Rattle.std.proofs.Common.{◌≡◌, ℕ, ◌+◌, Bool, true, false, List, [], ◌∷◌, ◌++◌, length, Some, None, decimal, Option, sym, refl, ap, ◌∙◌, subst, inl, inr, arith}
use Rattle.std.proofs.lemmas.Fmt.{decimal_injective}
use Rattle.std.proofs.lemmas.List.{append_assoc, append-nil, length-append}
use Rattle.std.proofs.lemmas.Bool.{cases_lt}
use Rattle.plan.specs.declared.line.Line.{Line}
use Rattle.plan.specs.declared.verb.Verb.{Verb}
use Rattle.plan.specs.declared.fault.PlanFault.{PlanFault}
use Rattle.plan.specs.declared.fault.PlanFault.TheVariants.{TooLong, Malformed}
use Rattle.plan.specs.Lines.{name, numbers, numbers_text, line_text, Small, Stands, Ordered, plan_text, opening}
use Rattle.plan.specs.Readings.{Written, Begins, Halts, Fails, Ends, Parses, Reads, OneReading, Whole}
use Rattle.plan.specs.Parts.{Digit}
use Rattle.plan.proofs.Lists.{Parts, heads, tails, tokens, fronts}
use Rattle.plan.proofs.Decimals.{digits}
use Rattle.plan.proofs.Rows.{parted}
use Rattle.plan.specs.Verbs.{verb_of}
use Rattle.plan.proofs.Tables.{Inner, inner_name, known, same_call, rebuilt}
use Rattle.plan.proofs.Words.{inner-parts}
use Rattle.plan.proofs.Plans.{line-some, next, next-later, next-opening}

parts_then : (P : ℕ → Type 0) (a u : List ℕ) → Parts P a → Parts P (a ++ u)
parts_then P [] u h = absurd h
parts_then P (s ∷ a) u h = h

same_numbers : (ns ms x y : List ℕ) → Small ns → Small ms → numbers_text ns ++ x ≡ numbers_text ms ++ y → (ns ≡ ms) × (x ≡ y)
same_numbers [] [] x y sn sm e = (refl, tails e)
same_numbers [] (m ∷ ms) x y sn sm e = absurd (let z = heads e in omega arith)
same_numbers (n ∷ ns) [] x y sn sm e = absurd (let z = heads e in omega arith)
same_numbers (n ∷ ns) (m ∷ ms) x y sn sm e =
    let p : decimal n ++ (numbers_text ns ++ x) ≡ decimal m ++ (numbers_text ms ++ y) =
    sym (append_assoc (decimal n) (numbers_text ns) x)
    ∙ tails e
    ∙ append_assoc (decimal m) (numbers_text ms) y in
    let q = tokens Digit (decimal n) (decimal m) (numbers_text ns ++ x) (numbers_text ms ++ y) (digits n sn.0) (digits m sm.0) (parts_then Digit (numbers_text ns) x (parted ns)) (parts_then Digit (numbers_text ms) y (parted ms)) p in
    let a = sn.0 in
    let b = sm.0 in
    let nm = decimal_injective n m (omega arith) (omega arith) q.0 in
    let r = same_numbers ns ms x y sn.1 sm.1 q.1 in
    (cc (nm, r.0), r.1)

-- no line is the beginning of another
same_line : (l m : Line) (x y : List ℕ) → Small (numbers l) → Small (numbers m) → line_text l ++ x ≡ line_text m ++ y → (l ≡ m) × (x ≡ y)
same_line l m x y sl sm e =
    let p : name l ++ (numbers_text (numbers l) ++ x) ≡ name m ++ (numbers_text (numbers m) ++ y) =
    sym (append_assoc (name l) (numbers_text (numbers l)) x) ∙ e ∙ append_assoc (name m) (numbers_text (numbers m)) y in
    let q = tokens Inner (name l) (name m) (numbers_text (numbers l) ++ x) (numbers_text (numbers m) ++ y) (inner_name l) (inner_name m) (parts_then Inner (numbers_text (numbers l)) x (inner-parts (numbers l))) (parts_then Inner (numbers_text (numbers m)) y (inner-parts (numbers m))) p in
    let r = same_numbers (numbers l) (numbers m) x y sl sm q.1 in (
      (known l).again ∙ ap (λ (v : Verb). rebuilt v (numbers l)) (same_call l m q.0) ∙ ap (λ (ns : List ℕ). rebuilt (verb_of m) ns) r.0 ∙ sym (known m).again,
      r.1,
    )

-- no text goes past the place where all halt
beyond : (L : List ℕ → Type 0) (f rest : List ℕ) (b : ℕ) (r more : List ℕ) → Halts L f rest → rest ≡ b ∷ r → L (f ++ (b ∷ more)) → ⊥
beyond L f rest b r more h e w = let k : Halts L f (b ∷ r) = subst (Halts L f) e h in k more w

begins-beyond : (L : List ℕ → Type 0) (f g rest : List ℕ) (b : ℕ) (r m : List ℕ) → Halts L f rest → rest ≡ b ∷ r → g ≡ f ++ (b ∷ m) → Begins L g → ⊥
begins-beyond L f g rest b r m h e q (more, some, w) =
    beyond L f rest b r (m ++ more) h e (subst L (ap (λ (k : List ℕ). k ++ more) q ∙ append_assoc f (b ∷ m) more) w)

abbrev NoLine : Bool → List ℕ → Type 0
NoLine first t = (l : Line) (u : List ℕ) → Stands first l → t ≡ line_text l ++ u → ⊥

-- nothing that properly begins a line begins with a line
no_whole : (first : Bool) (l : Line) (z front : List ℕ) → Stands first l → front ≡ line_text l ++ z → Begins (Written first) front → ⊥
no_whole first l z front st e (more, some, (m, sm, w)) =
    let p : line_text m ++ [] ≡ line_text l ++ (z ++ more) = append-nil (line_text m) ∙ sym w ∙ ap (λ (k : List ℕ). k ++ more) e ∙ append_assoc (line_text l) z more in
    let q = same_line m l [] (z ++ more) sm.small st.small p in
    omega (arith, some, length-append z more, ap (λ (k : List ℕ). length k) q.1)

no_line : (ls : List Line) (left : List ℕ) (f : Option PlanFault) → Ends ls left f → NoLine (opening ls) left
no_line ls left None (e, o) l u st w = omega (arith, line-some l, length-append (line_text l) u, ap (λ (k : List ℕ). length k) (sym e ∙ w))
no_line ls left (Some TooLong) e l u st w = absurd e
no_line ls left (Some (Malformed line column)) (_, F) l u st w =
    elim (fronts F.stuck.front F.rest (line_text l) u (sym F.stuck.cut ∙ w)) [
      | inl x ↦ by x.0 x.1 x.2
      | inr x ↦ no_whole (opening ls) l (x.0 ∷ x.1) F.stuck.front st x.2 F.stuck.begins
    ] where
      by : (m : List ℕ) → line_text l ≡ F.stuck.front ++ m → F.rest ≡ m ++ u → ⊥
      by [] g r = no_whole (opening ls) l [] F.stuck.front st (sym (append-nil F.stuck.front) ∙ sym g ∙ sym (append-nil (line_text l))) F.stuck.begins
      by (b ∷ m) g r = beyond (Written (opening ls)) F.stuck.front F.rest b (m ++ u) m F.stuck.halts r (l, st, sym g)

same_lines : (first : Bool) (ls ms : List Line) (x y : List ℕ) → Ordered first ls → Ordered first ms → NoLine (next first ls) x → NoLine (next first ms) y → plan_text ls ++ x ≡ plan_text ms ++ y → (ls ≡ ms) × (x ≡ y)
same_lines first [] [] x y ol om nx ny e = (refl, e)
same_lines first [] (m ∷ ms) x y ol om nx ny e = absurd (nx m (plan_text ms ++ y) om.0 (e ∙ append_assoc (line_text m) (plan_text ms) y))
same_lines first (l ∷ ls) [] x y ol om nx ny e = absurd (ny l (plan_text ls ++ x) ol.0 (sym e ∙ append_assoc (line_text l) (plan_text ls) x))
same_lines first (l ∷ ls) (m ∷ ms) x y ol om nx ny e =
    let q = same_line l m (plan_text ls ++ x) (plan_text ms ++ y) ol.0.small om.0.small (sym (append_assoc (line_text l) (plan_text ls) x) ∙ e ∙ append_assoc (line_text m) (plan_text ms) y) in
    let r = same_lines false ls ms x y ol.1 om.1 (subst (λ (b : Bool). NoLine b x) (sym (next-later ls)) nx) (subst (λ (b : Bool). NoLine b y) (sym (next-later ms)) ny) q.1 in
    (cc (q.0, r.0), r.1)

-- a text that holds no line fails at one column
same-column : (first : Bool) (left : List ℕ) (c d : ℕ) → Fails first left c → Fails first left d → c ≡ d
same-column first left c d F G =
    elim (fronts F.stuck.front F.rest G.stuck.front G.rest (sym F.stuck.cut ∙ G.stuck.cut)) [
      | inl x ↦ by x.0 x.1 x.2
      | inr x ↦ absurd (begins-beyond (Written first) G.stuck.front F.stuck.front G.rest x.0 (x.1 ++ F.rest) x.1 G.stuck.halts x.3 x.2 F.stuck.begins)
    ] where
      by : (m : List ℕ) → G.stuck.front ≡ F.stuck.front ++ m → F.rest ≡ m ++ G.rest → c ≡ d
      by [] g r = F.place ∙ ap (λ (k : List ℕ). length k + 1) (sym (g ∙ append-nil F.stuck.front)) ∙ sym G.place
      by (b ∷ m) g r = absurd (begins-beyond (Written first) F.stuck.front G.stuck.front F.rest b (m ++ G.rest) m F.stuck.halts r g G.stuck.begins)

same_end : (ls : List Line) (left : List ℕ) (f g : Option PlanFault) → Ends ls left f → Ends ls left g → f ≡ g
same_end ls left None None a b = refl
same_end ls left None (Some TooLong) a b = absurd b
same_end ls left None (Some (Malformed line column)) (e, o) (_, G) = absurd (omega (arith, G.inside o, ap (λ (k : List ℕ). length k) e))
same_end ls left (Some TooLong) g a b = absurd a
same_end ls left (Some (Malformed line column)) None (_, F) (e, o) = absurd (omega (arith, F.inside o, ap (λ (k : List ℕ). length k) e))
same_end ls left (Some (Malformed line column)) (Some TooLong) a b = absurd b
same_end ls left (Some (Malformed l c)) (Some (Malformed m d)) (p, F) (q, G) =
    let e = same-column (opening ls) left c d F G in
    cc

same-parse : (text : List ℕ) (ls ms : List Line) (f g : Option PlanFault) → Parses text ls f → Parses text ms g → (ls ≡ ms) × (f ≡ g)
same-parse text ls ms f g p q =
    let nl = subst (λ (b : Bool). NoLine b p.left) (sym (next-opening ls)) (no_line ls p.left f p.ends) in
    let nm = subst (λ (b : Bool). NoLine b q.left) (sym (next-opening ms)) (no_line ms q.left g q.ends) in
    let s = same_lines true ls ms p.left q.left p.ordered q.ordered nl nm (sym p.again ∙ q.again) in
    (s.0, same_end ls p.left f g p.ends (subst (λ (k : List Line). Ends k p.left g) (sym s.0) (subst (λ (k : List ℕ). Ends ms k g) (sym s.1) q.ends)))

pub one-reading : OneReading
one-reading text ls ms f g a b =
    elim (cases_lt 32768 (length text)) [
      | inl l ↦ ((a.long l).0 ∙ sym (b.long l).0, (a.long l).1 ∙ sym (b.long l).1)
      | inr h ↦ same-parse text ls ms f g (a.short h) (b.short h)
    ]

-- a text that is a plan has that plan as its reading
pub whole-read : {text : List ℕ} {ls : List Line} {f : Option PlanFault} → Reads text ls f → Whole text ls f
whole-read {text} {ls} {f} r ms ordered some e fits =
    one-reading text ls ms f None r
    (record {
      short = λ h. record { left = []; ordered = ordered; again = e ∙ sym (append-nil (plan_text ms)); ends = (refl, some) };
      long = λ h. absurd (omega arith);
    })
