-- The table of lines, read by verb and by name.
use Rattle.std.proofs.Common.{◌≡◌, ℕ, ◌+◌, ◌<◌, ◌≤◌, Bool, true, false, cond, ◌&&◌, eqb, ltb, leb, ◌⊎◌, List, [], ◌∷◌, ◌++◌, length, get_or, take, sym, refl, ap, ◌∙◌, subst, inl, inr, arith}
use Rattle.std.proofs.lemmas.Bool.{and_parts, ltb-true, leb-true}
use Rattle.plan.specs.declared.line.Line.{Line}
use Rattle.plan.specs.declared.verb.Verb.{Verb}
use Rattle.plan.specs.Lines.{said, name, numbers, line_text}
use Rattle.plan.specs.Names.{table}
use Rattle.plan.specs.Verbs.{verb_of, line_of, plain, opens, word, arity}
use Rattle.plan.specs.Parts.{after}
use Rattle.std.specs.List.{AllByRecursion as All}

-- a byte that no separator is
abbrev pub Inner : ℕ → Type 0
Inner b = 32 < b

abbrev inner : List ℕ → Bool
inner [] = true
inner (b ∷ bs) = ltb 32 b && inner bs

all-inner : (bs : List ℕ) → inner bs ≡ true → All Inner bs
all-inner [] h = tt
all-inner (b ∷ bs) h = let p = and_parts (ltb 32 b) (inner bs) h in (ltb-true 32 b p.0, all-inner bs p.1)

abbrev weight : List ℕ → ℕ
weight [] = 0
weight (b ∷ bs) = b + weight bs

-- the names have different sums of bytes, so that each is found by its sum
abbrev heavy : ℕ → Verb
heavy n =
    cond (eqb n 557) Verb.Store (cond (eqb n 416) Verb.Load (cond (eqb n 519) Verb.Clear (cond (eqb n 443) Verb.Copy (cond (eqb n 435) Verb.Cons (cond (eqb n 310) Verb.Car (cond (eqb n 313) Verb.Cdr (cond (eqb n 627) Verb.Rplaca (cond (eqb n 630) Verb.Rplacd (cond (eqb n 437) Verb.Look (Verb.Same))))))))))

abbrev named : List ℕ → Verb
named nm = heavy (weight nm)

abbrev four : ℕ → ℕ → ℕ → ℕ → List ℕ
four a b c d = a ∷ b ∷ c ∷ d ∷ []

-- the line of a call with these numbers
abbrev pub rebuilt : Verb → List ℕ → Line
rebuilt v ns = line_of v (get_or ns 0 0) (get_or ns 1 0) (get_or ns 2 0) (get_or ns 3 0)

-- a line is its call with its numbers, and the call is known by its name
pub record Known (l : Line) : Type 0 where
  pub again : l ≡ rebuilt (verb_of l) (numbers l)
  pub by_name : verb_of l ≡ named (name l)
  pub placed : (said l).0 ≡ opens (verb_of l)
  pub counted : length (numbers l) ≡ arity (verb_of l)
  pub text : line_text l ≡ word (verb_of l) ++ after (numbers l)
  pub clear : inner (name l) ≡ true

pub known : (l : Line) → Known l
known (Line.Store a b c d) = record { again = refl; by_name = refl; placed = refl; counted = refl; text = refl; clear = refl }
known (Line.Load a b c) = record { again = refl; by_name = refl; placed = refl; counted = refl; text = refl; clear = refl }
known (Line.Clear a) = record { again = refl; by_name = refl; placed = refl; counted = refl; text = refl; clear = refl }
known (Line.Copy a b) = record { again = refl; by_name = refl; placed = refl; counted = refl; text = refl; clear = refl }
known (Line.Cons a b c) = record { again = refl; by_name = refl; placed = refl; counted = refl; text = refl; clear = refl }
known (Line.Car a b) = record { again = refl; by_name = refl; placed = refl; counted = refl; text = refl; clear = refl }
known (Line.Cdr a b) = record { again = refl; by_name = refl; placed = refl; counted = refl; text = refl; clear = refl }
known (Line.Rplaca a b) = record { again = refl; by_name = refl; placed = refl; counted = refl; text = refl; clear = refl }
known (Line.Rplacd a b) = record { again = refl; by_name = refl; placed = refl; counted = refl; text = refl; clear = refl }
known (Line.Look a) = record { again = refl; by_name = refl; placed = refl; counted = refl; text = refl; clear = refl }
known (Line.Same a b) = record { again = refl; by_name = refl; placed = refl; counted = refl; text = refl; clear = refl }

pub inner_name : (l : Line) → All Inner (name l)
inner_name l = all-inner (name l) (known l).clear

-- lines of one name are of one call
pub same_call : (l m : Line) → name l ≡ name m → verb_of l ≡ verb_of m
same_call l m e = (known l).by_name ∙ ap named e ∙ sym (known m).by_name

-- the line that is made of a verb and numbers
record Made (v : Verb) (a b c d : ℕ) : Type 0 where
  called : verb_of (line_of v a b c d) ≡ v
  numbered : numbers (line_of v a b c d) ≡ take (arity v) (four a b c d)
  few : leb (arity v) 4 ≡ true

made : (v : Verb) (a b c d : ℕ) → Made v a b c d
made Verb.Store a b c d = record { called = refl; numbered = refl; few = refl }
made Verb.Load a b c d = record { called = refl; numbered = refl; few = refl }
made Verb.Clear a b c d = record { called = refl; numbered = refl; few = refl }
made Verb.Copy a b c d = record { called = refl; numbered = refl; few = refl }
made Verb.Cons a b c d = record { called = refl; numbered = refl; few = refl }
made Verb.Car a b c d = record { called = refl; numbered = refl; few = refl }
made Verb.Cdr a b c d = record { called = refl; numbered = refl; few = refl }
made Verb.Rplaca a b c d = record { called = refl; numbered = refl; few = refl }
made Verb.Rplacd a b c d = record { called = refl; numbered = refl; few = refl }
made Verb.Look a b c d = record { called = refl; numbered = refl; few = refl }
made Verb.Same a b c d = record { called = refl; numbered = refl; few = refl }

pub plain-call : (v : Verb) → verb_of (plain v) ≡ v
plain-call v = (made v 0 0 0 0).called

-- no more than four numbers are the first of four
four-of : (ns : List ℕ) → length ns ≤ 4 → take (length ns) (four (get_or ns 0 0) (get_or ns 1 0) (get_or ns 2 0) (get_or ns 3 0)) ≡ ns
four-of [] h = refl
four-of (a ∷ []) h = refl
four-of (a ∷ b ∷ []) h = refl
four-of (a ∷ b ∷ c ∷ []) h = refl
four-of (a ∷ b ∷ c ∷ d ∷ []) h = refl
four-of (a ∷ b ∷ c ∷ d ∷ e ∷ ns) h = absurd (omega arith)

pub rebuilt-so : (v : Verb) (ns : List ℕ) → length ns ≡ arity v → (verb_of (rebuilt v ns) ≡ v) × (numbers (rebuilt v ns) ≡ ns)
rebuilt-so v ns e =
    let m = made v (get_or ns 0 0) (get_or ns 1 0) (get_or ns 2 0) (get_or ns 3 0) in
    let few : length ns ≤ 4 = omega (arith, leb-true (arity v) 4 m.few) in
    (m.called, m.numbered ∙ subst (λ (n : ℕ). take n (four (get_or ns 0 0) (get_or ns 1 0) (get_or ns 2 0) (get_or ns 3 0)) ≡ ns) e (four-of ns few))

abbrev pub Mem : Verb → List Verb → Type 0
Mem v [] = ⊥
Mem v (x ∷ xs) = (v ≡ x) ⊎ Mem v xs

pub listed : (v : Verb) → Mem v (table (opens v))
listed Verb.Store = inl refl
listed Verb.Load = inl refl
listed Verb.Clear = inr (inl refl)
listed Verb.Copy = inr (inr (inl refl))
listed Verb.Cons = inr (inr (inr (inl refl)))
listed Verb.Car = inr (inr (inr (inr (inl refl))))
listed Verb.Cdr = inr (inr (inr (inr (inr (inl refl)))))
listed Verb.Rplaca = inr (inr (inr (inr (inr (inr (inl refl))))))
listed Verb.Rplacd = inr (inr (inr (inr (inr (inr (inr (inl refl)))))))
listed Verb.Look = inr (inr (inr (inr (inr (inr (inr (inr (inl refl))))))))
listed Verb.Same = inr (inr (inr (inr (inr (inr (inr (inr (inr (inl refl)))))))))

every-mem : (P : Verb → Type 0) (v : Verb) (vs : List Verb) → All P vs → Mem v vs → P v
every-mem P v [] a m = absurd m
every-mem P v (x ∷ vs) a (inl e) = subst P (sym e) a.0
every-mem P v (x ∷ vs) a (inr m) = every-mem P v vs a.1 m

pub opens-so : (first : Bool) (v : Verb) → Mem v (table first) → opens v ≡ first
opens-so true v m = every-mem (λ u. opens u ≡ true) v (table true) (refl, tt) m
opens-so false v m = every-mem (λ u. opens u ≡ false) v (table false) (refl, (refl, (refl, (refl, (refl, (refl, (refl, (refl, (refl, (refl, tt)))))))))) m
