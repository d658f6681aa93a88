-- A plan, line by line.
use Rattle.std.proofs.Common.{◌≡◌, ℕ, suc, ◌+◌, ◌-◌, ◌<◌, ◌≤◌, Bool, true, false, eqb, List, [], ◌∷◌, ◌++◌, length, Some, sym, refl, ap, arith}
use Rattle.std.proofs.lemmas.List.{append_assoc, append-nil, length-append, length_push}
use Rattle.std.proofs.lemmas.Bool.{ne_eqb}
use Rattle.plan.specs.declared.line.Line.{Line}
use Rattle.plan.specs.declared.fault.PlanFault.TheVariants.{Malformed}
use Rattle.plan.specs.Lines.{name, numbers, numbers_text, line_text, Stands, Ordered, plan_text, opening}
use Rattle.plan.specs.Readings.{Written, Parses, Stuck}
use Rattle.plan.specs.Parts.{LineAt}
use Rattle.plan.proofs.Rows.{marks}

pub opening-test : (ls : List Line) → opening ls ≡ eqb (length ls) 0
opening-test [] = refl
opening-test (l ∷ ls) = sym (ne_eqb (suc (length ls)) 0 (λ e. omega arith))

-- whether the line after these opens the plan, where the first of them does or does not
abbrev pub next : Bool → List Line → Bool
next first [] = first
next first (l ∷ ls) = false

pub next-later : (ls : List Line) → next false ls ≡ false
next-later [] = refl
next-later (l ∷ ls) = refl

pub next-opening : (ls : List Line) → next true ls ≡ opening ls
next-opening [] = refl
next-opening (l ∷ ls) = refl

pub line-some : (l : Line) → 0 < length (line_text l)
line-some l = omega (arith, length-append (name l) (numbers_text (numbers l)), marks (numbers l))

-- a line takes some of what is left
pub line-shorter : (first : Bool) (text : List ℕ) (l : Line) (rest : List ℕ) → LineAt first text l rest → length rest < length text
line-shorter first text l rest h = omega (arith, ap (λ (t : List ℕ). length t) h.cut, length-append (line_text l) rest, line-some l)

-- these lines stand before what is left
pub record Sofar (bs : List ℕ) (ls : List Line) (left : List ℕ) : Type 0 where
  pub ordered : Ordered true ls
  pub again : bs ≡ plan_text ls ++ left
  pub few : length ls + length left ≤ length bs

ordered-more : (first : Bool) (ls : List Line) (l : Line) → Ordered first ls → Stands (next first ls) l → Ordered first (ls ++ (l ∷ []))
ordered-more first [] l o s = (s, tt)
ordered-more first (x ∷ ls) l o s = (o.0, ordered-more false ls l o.1 (rw (next-later ls) s))

text-more : (ls : List Line) (l : Line) → plan_text (ls ++ (l ∷ [])) ≡ plan_text ls ++ line_text l
text-more [] l = append-nil (line_text l)
text-more (x ∷ ls) l = cc (text-more ls l, append_assoc (line_text x) (plan_text ls) (line_text l))

module _ (bs : List ℕ) (ls : List Line) (left : List ℕ) (s : Sofar bs ls left) where
  pub sofar-more : (l : Line) (rest : List ℕ) → LineAt (opening ls) left l rest → Sofar bs (ls ++ (l ∷ [])) rest
  sofar-more l rest h =
      record {
        ordered = ordered-more true ls l s.ordered (rw (next-opening ls) h.stands);
        again = cc (s.again, h.cut, append_assoc (plan_text ls) (line_text l) rest, text-more ls l);
        few = omega (arith, s.few, line-shorter (opening ls) left l rest h, length_push ls l);
      }

  pub parses-fault : (rest : List ℕ) → Stuck (Written (opening ls)) left rest → (opening ls ≡ false → 0 < length left) → Parses bs ls (Some (Malformed (length ls + 1) (length left - length rest + 1)))
  parses-fault rest k inside =
      record {
        left = left;
        ordered = s.ordered;
        again = s.again;
        ends = (
          refl,
          record {
            rest = rest;
            stuck = k;
            place = omega (arith, ap (λ (t : List ℕ). length t) k.cut, length-append k.front rest);
            inside = inside;
          },
        );
      }
