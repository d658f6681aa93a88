-- The name that a line begins with.
use Rattle.std.proofs.Common.{◌≡◌, ℕ, ◌+◌, ◌-◌, ◌<◌, ◌≤◌, max, Bool, true, false, cond, ◌==◌, ◌⊎◌, List, [], ◌∷◌, ◌++◌, length, take, drop, Some, None, Option, fold, replicate, sym, refl, ap, ◌∙◌, subst, inl, inr, arith}
use Rattle.std.specs.List.{starts_with}
use Rattle.std.proofs.lemmas.Bool.{cases_lt, both_ways}
use Rattle.std.proofs.lemmas.Bool.Decides.{Decides-eqb}
use Rattle.std.proofs.lemmas.List.{append_assoc, append_cancel_left, length-append, length_push, length-drop, length-replicate, length-take-le, take-append-drop, take_all}
use Rattle.std.proofs.lemmas.Slice.Eq.{starts_is}
use Rattle.plan.specs.declared.line.Line.{Line}
use Rattle.plan.specs.declared.verb.Verb.{Verb}
use Rattle.plan.specs.Lines.{name, numbers, numbers_text}
use Rattle.plan.specs.Names.{table, agree, found, closest}
use Rattle.plan.specs.Readings.{Written, Begins, Halts, Stuck}
use Rattle.plan.specs.Verbs.{verb_of, plain, opens, word, arity}
use Rattle.plan.specs.Parts.{after, Numbers, NameAt, CallAt, LineAt}
use Rattle.plan.proofs.Lists.{Parts, tokens, fronts}
use Rattle.plan.proofs.Texts.{Rest}
use Rattle.plan.proofs.Rows.{zeros}
use Rattle.plan.proofs.Agreements.{agree-front, agree-whole, agree-begins, agree-le}
use Rattle.plan.proofs.Tables.{Inner, inner_name, known, same_call, plain-call, rebuilt, rebuilt-so, Mem, listed, opens-so}

pub inner-parts : (ns : List ℕ) → Parts Inner (numbers_text ns)
inner-parts [] = λ h. omega arith
inner-parts (n ∷ ns) = λ h. omega arith

-- what follows a name and its space
pub line-rest : (first : Bool) (v : Verb) → opens v ≡ first → Rest (Written first) (word v) (Numbers (arity v))
line-rest first v place = record { onto = onto; back = back } where
  onto : (t : List ℕ) → Numbers (arity v) t → Written first (word v ++ t)
  onto t (ns, e, s, w) =
      let l = rebuilt v ns in
      let r = rebuilt-so v ns e in
      let k = known l in (
        l,
        record { place = cc (k.placed, r.0); small = rw r.1 s },
        cc (w, k.text, r.0, r.1),
      )

  back : (t : List ℕ) → Written first (word v ++ t) → Numbers (arity v) t
  back t (l, st, e) =
      let k = known l in
      let p : name (plain v) ++ (32 ∷ t) ≡ name l ++ numbers_text (numbers l) = sym (append_assoc (name (plain v)) (32 ∷ []) t) ∙ e in
      let q = tokens Inner (name (plain v)) (name l) (32 ∷ t) (numbers_text (numbers l)) (inner_name (plain v)) (inner_name l) (λ h. omega arith) (inner-parts (numbers l)) p in
      let u : verb_of l ≡ v = same_call l (plain v) (sym q.0) ∙ plain-call v in (
        numbers l,
        k.counted ∙ ap arity u,
        st.small,
        append_cancel_left (word v) t (after (numbers l)) (cc (e, k.text, u)),
      )

-- the name with its space, and the numbers after it, are the line
pub line_at : {first : Bool} {v : Verb} {l : Line} {text mid rest : List ℕ} → NameAt first text v mid → CallAt v mid l rest → LineAt first text l rest
line_at {v = v} {l = l} {rest = rest} a b =
    let k = known l in
    record {
      stands = record { place = cc (k.placed); small = b.small };
      cut = cc (k.text, append_assoc (word v) (after (numbers l)) rest);
    }

cond-none : (b : Bool) (x : Verb) (o : Option Verb) → cond b (Some x) o ≡ None → (b ≡ false) × (o ≡ None)
cond-none true x o e = cc
cond-none false x o e = (refl, e)

cond-some : (b : Bool) (x v : Verb) (o : Option Verb) → cond b (Some x) o ≡ Some v → ((b ≡ true) × (v ≡ x)) ⊎ (o ≡ Some v)
cond-some true x v o e = inl (refl, cc)
cond-some false x v o e = inr e

-- the text begins with the word of the verb that is found
hit : (vs : List Verb) (t : List ℕ) (v : Verb) → found vs t ≡ Some v → Mem v vs × (t ≡ word v ++ drop (length (word v)) t)
hit [] t v e = cc
hit (x ∷ vs) t v e = elim (cond-some (starts_with ◌==◌ t (word x)) x v (found vs t) e) [
  | inl y ↦ (inl y.1, rw y.1 ((starts_is Decides-eqb t (word x) (starts_with ◌==◌ t (word x)) refl).0 y.0))
  | inr y ↦ let r = hit vs t v y in (inr r.0, r.1)
]

-- where none is found it begins with none
missed : (vs : List Verb) (t : List ℕ) → found vs t ≡ None → (v : Verb) → Mem v vs → (rest : List ℕ) → t ≡ word v ++ rest → ⊥
missed [] t e v m rest w = m
missed (x ∷ vs) t e v m rest w =
    let c = cond-none (starts_with ◌==◌ t (word x)) x (found vs t) e in
    elim m [
      | inl y ↦
          both_ways (starts_with ◌==◌ t (word x)) c.0
          ((starts_is Decides-eqb t (word x) (starts_with ◌==◌ t (word x)) refl).1 rest (w ∙ ap (λ (u : Verb). word u ++ rest) y))
      | inr y ↦ missed vs t c.1 v y rest w
    ]

-- the most that the text has in common with one of the words, if it is more than n
record Furthest (n : ℕ) (vs : List Verb) (t : List ℕ) (most : ℕ) : Type 0 where
  least : n ≤ most
  all : (v : Verb) → Mem v vs → agree (word v) t ≤ most
  met : (most ≡ n) ⊎ ((v : Verb) × Mem v vs × (agree (word v) t ≡ most))

furthest : (n : ℕ) (vs : List Verb) (t : List ℕ) → Furthest n vs t (fold (λ m v. max m (agree (word v) t)) n vs)
furthest n [] t = record { least = omega arith; all = λ v m. absurd m; met = inl refl }
furthest n (x ∷ vs) t =
    let r = furthest (max n (agree (word x) t)) vs t in
    record {
      least = omega (arith, r.least);
      all = λ v m. elim m [ inl y ↦ rw y (omega (arith, r.least)) | inr y ↦ r.all v y ];
      met = elim r.met [
        | inl y ↦ elim (cases_lt n (agree (word x) t)) [
          | inl l ↦ inr (x, inl refl, omega (arith, y))
          | inr l ↦ inl (omega (arith, y))
        ]
        | inr y ↦ inr (y.0, inr y.1, y.2)
      ];
    }

pub closest-within : (vs : List Verb) (t : List ℕ) → closest vs t ≤ length t
closest-within vs t = elim (furthest 0 vs t).met [
  | inl y ↦ omega (arith, y)
  | inr y ↦ omega (arith, y.2, (agree-le (word y.0) t).1)
]

-- the verbs of the table that fits, and no others, may stand there
pub name-at : (first : Bool) (t : List ℕ) (v : Verb) → found (table first) t ≡ Some v → NameAt first t v (drop (length (word v)) t)
name-at first t v e = let h = hit (table first) t v e in record { place = opens-so first v h.0; cut = h.1 }

module _ (first : Bool) (t : List ℕ) (none : found (table first) t ≡ None) where
  abbrev n : ℕ
  n = closest (table first) t

  far : Furthest 0 (table first) t n
  far = furthest 0 (table first) t

  mem : (v : Verb) → opens v ≡ first → Mem v (table first)
  mem v o = subst (λ (b : Bool). Mem v (table b)) o (listed v)

  -- a verb whose word goes furthest
  reached : (v : Verb) × (opens v ≡ first) × (agree (word v) t ≡ n)
  reached = elim far.met [
    | inl z ↦ some-verb first (λ v o. omega (arith, far.all v (mem v o)))
    | inr x ↦ (x.0, opens-so first x.0 x.1, x.2)
  ] where
    some-verb : (b : Bool) → ((v : Verb) → opens v ≡ b → agree (word v) t ≡ n) → (v : Verb) × (opens v ≡ b) × (agree (word v) t ≡ n)
    some-verb true f = (Verb.Store, refl, f Verb.Store refl)
    some-verb false f = (Verb.Load, refl, f Verb.Load refl)

  short : (v : Verb) → opens v ≡ first → agree (word v) t < length (word v)
  short v o = elim (cases_lt (agree (word v) t) (length (word v))) [
    | inl l ↦ l
    | inr l ↦ absurd (missed (table first) t none v (mem v o) (drop (length (word v)) t) (agree-whole (word v) t (let q = (agree-le (word v) t).0 in omega arith)))
  ]

  begins : Begins (Written first) (take n t)
  begins =
      let v = reached.0 in
      let o = reached.1 in
      let rest = after (replicate (arity v) 0) in
      let f : take n (word v) ≡ take n t = subst (λ (k : ℕ). take k (word v) ≡ take k t) reached.2 (agree-front (word v) t) in
      let whole : take n t ++ drop n (word v) ≡ word v = ap (λ (u : List ℕ). u ++ drop n (word v)) (sym f) ∙ take-append-drop n (word v) in (
        drop n (word v) ++ rest,
        omega (arith, short v o, reached.2, length-append (drop n (word v)) rest, length-drop n (word v)),
        subst (Written first)
            (ap (λ (u : List ℕ). u ++ rest) (sym whole) ∙ append_assoc (take n t) (drop n (word v)) rest)
            ((line-rest first v o).onto rest (replicate (arity v) 0, length-replicate (arity v) 0, zeros (arity v), refl)),
      )

  halts : (r : List ℕ) → t ≡ take n t ++ r → Halts (Written first) (take n t) r
  halts [] e = tt
  halts (b ∷ r) e = no where
    no : (more : List ℕ) → Written first (take n t ++ (b ∷ more)) → ⊥
    no more (l, st, w) =
        let v = verb_of l in
        let k = known l in
        let o : opens v ≡ first = sym k.placed ∙ st.place in
        let f = take n t ++ (b ∷ []) in
        let p : f ++ more ≡ word v ++ after (numbers l) = append_assoc (take n t) (b ∷ []) more ∙ w ∙ k.text in
        let tf : t ≡ f ++ r = e ∙ sym (append_assoc (take n t) (b ∷ []) r) in
        let long : length f ≡ n + 1 = length_push (take n t) b ∙ ap (λ (m : ℕ). m + 1) (length-take-le n t (closest-within (table first) t)) in
        elim (fronts f more (word v) (after (numbers l)) p) [
          | inl x ↦ omega (arith, long, far.all v (mem v o), agree-begins (word v) t f x.0 r x.1 tf)
          | inr x ↦ missed (table first) t none v (mem v o) ((x.0 ∷ x.1) ++ r) (tf ∙ ap (λ (u : List ℕ). u ++ r) x.2 ∙ append_assoc (word v) (x.0 ∷ x.1) r)
        ]

  pub name-stuck : Stuck (Written first) t (drop n t)
  name-stuck =
      let e = sym (take-append-drop n t) in
      record { front = take n t; cut = e; begins = begins; halts = halts (drop n t) e }

-- what is left after some bytes, as a slice
pub left-after : (n : ℕ) (t : List ℕ) → take (length t - n) (drop n t) ≡ drop n t
left-after n t = take_all (length t - n) (drop n t) (omega (arith, length-drop n t))
