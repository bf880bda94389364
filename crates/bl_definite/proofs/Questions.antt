-- What is asked for a command.
use Rattle.std.proofs.Common.{◌≡◌, ◌⊎◌, inl, inr, ℕ, suc, ◌+◌, ◌-◌, ◌<◌, ◌≤◌, List, [], ◌∷◌, ◌++◌, length, set, replicate, Option, Some, None, slice_get, Bool, true, false, refl, sym, ap, ◌∙◌, subst, arith}
use Rattle.std.specs.Prelude.{nat_lt, if◌then◌else◌}
use Rattle.std.proofs.lemmas.Bool.{cases_lt, false≢true, ltb-true, ltb-false}
use Rattle.std.proofs.lemmas.List.{length-replicate}
use Rattle.std.proofs.lemmas.Option.{none-some, same_Some}
use Rattle.bl_program.specs.Layout.{first_of, entry_of, command_at, Holds}
use Rattle.bl_program.specs.Programs.{IsProgram}
use Rattle.bl_program.specs.Rules.{IsLocal, IsOwn, IsResult, IsWellFormed, Leaves, Rule2, variable}
use Rattle.bl_program.specs.Sites.{Among}
use Rattle.bl_program.specs.declared.command.Operand.{Operand}
use Rattle.bl_program.specs.declared.command.Operand.TheVariants as operand
use Rattle.bl_program.specs.declared.command.Command.{Command}
use Rattle.bl_program.specs.declared.command.Command.TheVariants as command
use Rattle.bl_program.specs.declared.definitions.FunctionDef.{FunctionDef}
use Rattle.bl_program.specs.declared.definitions.ProgramParts.{ProgramParts as Program}
use Rattle.bl_program.proofs.Layouts.{own_apart, result_own, sum_up}
use Rattle.bl_definite.specs.Facts.{IsDefinite, IsDefiniteAt, IsFirstLacking, Lacks, Makes, Needs, Reads, own, returned}
use Rattle.bl_definite.specs.Search.{Answers, AreEarly, AreUnset, Finds, IsClean, IsFlagged, IsLackingIn, IsStraight, flagged, with_flag}
use Rattle.bl_definite.specs.declared.facts.Fact.{Fact}
use Rattle.bl_definite.specs.declared.facts.Fact.TheVariants.{Own, Returned}
use Rattle.bl_definite.specs.declared.search.Search.{Search}
use Rattle.bl_definite.proofs.ListLemmas.{set_cases, in_replicate}
use Rattle.bl_definite.proofs.Ways.{early_known}

-- ---- answers

module _ (program : Program) (position : ℕ) where
  -- nothing is needed
  pub needs_none : (needed : Fact → Type 0) (search : Search) → IsClean program search → ((fact : Fact) → needed fact → Lacks program fact position → ⊥) → Answers program needed position false search
  needs_none needed search clean none = record { lacks = λ e. absurd (false≢true e); has = λ _. none; clean = λ _. clean }

  -- the same question in other words
  pub asked_alike : (one other : Fact → Type 0) (answer : Bool) (search : Search) → ((fact : Fact) → one fact → other fact) → ((fact : Fact) → other fact → one fact)
      → Answers program one position answer search → Answers program other position answer search
  asked_alike one other answer search there back a = record {
    lacks = λ e. let found = a.lacks e in (found.0, there found.0 found.1, found.2);
    has = λ e fact is. a.has e fact (back fact is);
    clean = a.clean;
  }

  module _ (function : ℕ) where
    abbrev Asks : List Operand → Bool → Search → Type 0
    Asks operands answer search = Answers program (Reads program function operands) position answer search

    among_first : (xs ys : List Operand) (x : ℕ) → Among xs x → Among (xs ++ ys) x
    among_first [] ys x h = absurd h
    among_first (o ∷ xs) ys x h = elim h as (λ _. Among (o ∷ (xs ++ ys)) x) [ inl is ↦ inl is | inr rest ↦ inr (among_first xs ys x rest) ]

    among_last : (xs ys : List Operand) (x : ℕ) → Among ys x → Among (xs ++ ys) x
    among_last [] ys x h = h
    among_last (o ∷ xs) ys x h = inr (among_last xs ys x h)

    among_either : (xs ys : List Operand) (x : ℕ) → Among (xs ++ ys) x → Among xs x ⊎ Among ys x
    among_either [] ys x h = inr h
    among_either (o ∷ xs) ys x h = elim h as (λ _. Among (o ∷ xs) x ⊎ Among ys x) [
      | inl is ↦ inl (inl is)
      | inr rest ↦ elim (among_either xs ys x rest) as (λ _. Among (o ∷ xs) x ⊎ Among ys x) [ inl first ↦ inl (inr first) | inr last ↦ inr last ]
    ]

    reads_first : (xs ys : List Operand) (fact : Fact) → Reads program function xs fact → Reads program function (xs ++ ys) fact
    reads_first xs ys fact (own x among local is) = own x (among_first xs ys x among) local is
    reads_first xs ys fact (returned x any among result is) = returned x any (among_first xs ys x among) result is

    reads_last : (xs ys : List Operand) (fact : Fact) → Reads program function ys fact → Reads program function (xs ++ ys) fact
    reads_last xs ys fact (own x among local is) = own x (among_last xs ys x among) local is
    reads_last xs ys fact (returned x any among result is) = returned x any (among_last xs ys x among) result is

    reads_either : (xs ys : List Operand) (fact : Fact) → Reads program function (xs ++ ys) fact → Reads program function xs fact ⊎ Reads program function ys fact
    reads_either xs ys fact (own x among local is) = elim (among_either xs ys x among) as (λ _. Reads program function xs fact ⊎ Reads program function ys fact) [
      | inl first ↦ inl (own x first local is)
      | inr last ↦ inr (own x last local is)
    ]
    reads_either xs ys fact (returned x any among result is) = elim (among_either xs ys x among) as (λ _. Reads program function xs fact ⊎ Reads program function ys fact) [
      | inl first ↦ inl (returned x any first result is)
      | inr last ↦ inr (returned x any last result is)
    ]

    -- the first operands lack something
    pub asked_first : (xs ys : List Operand) (search : Search) → Asks xs true search → Asks (xs ++ ys) true search
    asked_first xs ys search a = record {
      lacks = λ e. let found = a.lacks e in (found.0, reads_first xs ys found.0 found.1, found.2);
      has = λ e. absurd (false≢true (sym e));
      clean = λ e. absurd (false≢true (sym e));
    }

    -- the first operands lack nothing
    pub asked_both : (xs ys : List Operand) (answer : Bool) (search last : Search) → Asks xs false search → Asks ys answer last → Asks (xs ++ ys) answer last
    asked_both xs ys answer search last a b = record {
      lacks = λ e. let found = b.lacks e in (found.0, reads_last xs ys found.0 found.1, found.2);
      has = λ e fact reads. elim (reads_either xs ys fact reads) as (λ _. Lacks program fact position → ⊥) [ inl first ↦ a.has refl fact first | inr later ↦ b.has e fact later ];
      clean = b.clean;
    }

    no_among : (number x : ℕ) → Among (operand.Const number ∷ []) x → ⊥
    no_among number x h = elim h as (λ _. ⊥) [ inl is ↦ is | inr rest ↦ rest ]

    pub asked_number : (number : ℕ) (search : Search) → IsClean program search → Asks (operand.Const number ∷ []) false search
    asked_number number search clean = needs_none (Reads program function (operand.Const number ∷ [])) search clean (λ fact reads lacks. by fact reads)
      where
        by : (fact : Fact) → Reads program function (operand.Const number ∷ []) fact → ⊥
        by fact (own x among local is) = no_among number x among
        by fact (returned x any among result is) = no_among number x among

    -- ---- a variable

    named_is : (x y : ℕ) → Among (variable x ∷ []) y → x ≡ y
    named_is x y h = elim h as (λ _. x ≡ y) [ inl is ↦ is | inr rest ↦ absurd rest ]

    named : (x : ℕ) → Among (variable x ∷ []) x
    named x = inl refl

    -- what a variable of a function stands for
    reads_cases : (x : ℕ) (fact : Fact) → Reads program function (variable x ∷ []) fact → (IsLocal program function x × (fact ≡ Own x)) ⊎ ((any : ℕ) × IsResult program any x × (fact ≡ Returned any))
    reads_cases x fact (own y among local is) =
        let same : y ≡ x = sym (named_is x y among) in
        inl (subst (IsLocal program function) same local, is ∙ ap Own same)
    reads_cases x fact (returned y any among result is) =
        inr (any, subst (IsResult program any) (sym (named_is x y among)) result, is)

    -- it is no function's
    pub asked_static : (x : ℕ) (search : Search) → Rule2 program → IsClean program search → ((any : ℕ) → IsOwn program any x → ⊥) → Asks (variable x ∷ []) false search
    asked_static x search rule clean none = needs_none (Reads program function (variable x ∷ [])) search clean (λ fact reads lacks. elim (reads_cases x fact reads) as (λ _. ⊥) [
      | inl local ↦ none function local.0.0
      | inr result ↦ none result.0 (result_own program result.0 x rule result.1)
    ])

    -- it is a result
    pub asked_result : (x owner : ℕ) (answer : Bool) (search : Search) → Rule2 program → IsOwn program owner x → IsResult program owner x
        → Answers program (λ other. other ≡ Returned owner) position answer search → Asks (variable x ∷ []) answer search
    asked_result x owner answer search rule owned result a = asked_alike (λ other. other ≡ Returned owner) (Reads program function (variable x ∷ [])) answer search
        (λ fact is. returned x owner (named x) result is)
        (λ fact reads. elim (reads_cases x fact reads) as (λ _. fact ≡ Returned owner) [
          | inl local ↦ absurd (local.0.1 (subst (λ (f : ℕ). IsResult program f x) (own_apart program owner function x owned local.0.0) result))
          | inr other ↦ other.2 ∙ ap Returned (own_apart program other.0 owner x (result_own program other.0 x rule other.1) owned)
        ]) a

    no_result : (x owner any : ℕ) → Rule2 program → IsOwn program owner x → (IsResult program owner x → ⊥) → IsResult program any x → ⊥
    no_result x owner any rule owned none result = none (subst (λ (f : ℕ). IsResult program f x) (own_apart program any owner x (result_own program any x rule result) owned) result)

    -- it is another function's, and no result
    pub asked_other : (x owner : ℕ) (search : Search) → Rule2 program → IsClean program search → IsOwn program owner x → (IsResult program owner x → ⊥) → (owner ≡ function → ⊥) → Asks (variable x ∷ []) false search
    asked_other x owner search rule clean owned none apart = needs_none (Reads program function (variable x ∷ [])) search clean (λ fact reads lacks. elim (reads_cases x fact reads) as (λ _. ⊥) [
      | inl local ↦ apart (own_apart program owner function x owned local.0.0)
      | inr result ↦ no_result x owner result.0 rule owned none result.1
    ])

    -- it is the function's and no result, and isn't lacking
    pub asked_known : (x owner : ℕ) (search : Search) → Rule2 program → IsClean program search → IsOwn program owner x → (IsResult program owner x → ⊥) → (Lacks program (Own x) position → ⊥) → Asks (variable x ∷ []) false search
    asked_known x owner search rule clean owned none known = needs_none (Reads program function (variable x ∷ [])) search clean (λ fact reads lacks. elim (reads_cases x fact reads) as (λ _. ⊥) [
      | inl local ↦ known (subst (λ f. Lacks program f position) local.1 lacks)
      | inr result ↦ no_result x owner result.0 rule owned none result.1
    ])

    pub asked_own : (x owner : ℕ) (answer : Bool) (search : Search) → Rule2 program → IsOwn program owner x → (IsResult program owner x → ⊥) → owner ≡ function
        → Answers program (λ other. other ≡ Own x) position answer search → Asks (variable x ∷ []) answer search
    asked_own x owner answer search rule owned none same a = asked_alike (λ other. other ≡ Own x) (Reads program function (variable x ∷ [])) answer search
        (λ fact is. own x (named x) (subst (λ (f : ℕ). IsOwn program f x) same owned, λ result. none (subst (λ (f : ℕ). IsResult program f x) (sym same) result)) is)
        (λ fact reads. elim (reads_cases x fact reads) as (λ _. fact ≡ Own x) [
          | inl local ↦ local.1
          | inr result ↦ absurd (no_result x owner result.0 rule owned none result.1)
        ]) a

  -- ---- facts by rising indices

  abbrev pub HasBelow : (ℕ → Fact) → ℕ → Type 0
  HasBelow fact count = (index : ℕ) → index < count → Lacks program (fact index) position → ⊥

  pub has_more : (fact : ℕ → Fact) (index : ℕ) → HasBelow fact index → (Lacks program (fact index) position → ⊥) → HasBelow fact (index + 1)
  has_more fact index below here other lt = elim (cases_lt other index) as (λ _. Lacks program (fact other) position → ⊥) [
    | inl less ↦ below other less
    | inr more ↦ let same : index ≡ other = omega arith in subst (λ (k : ℕ). Lacks program (fact k) position → ⊥) same here
  ]

  abbrev pub IsOne : (ℕ → Fact) → ℕ → Fact → Type 0
  IsOne fact count one = (index : ℕ) × (index < count) × (one ≡ fact index)

  pub has_all : (fact : ℕ → Fact) (count index : ℕ) (search : Search) → count ≤ index → HasBelow fact index → IsClean program search → Answers program (IsOne fact count) position false search
  has_all fact count index search le below clean = needs_none (IsOne fact count) search clean (λ one is lacks. below is.0 (let lt = is.1 in omega arith) (subst (λ f. Lacks program f position) is.2 lacks))

  pub lacks_one : (fact : ℕ → Fact) (count index : ℕ) (search : Search) → index < count → Answers program (λ other. other ≡ fact index) position true search → Answers program (IsOne fact count) position true search
  lacks_one fact count index search lt a = record {
    lacks = λ e. let found = a.lacks e in (found.0, (index, lt, found.1), found.2);
    has = λ e. absurd (false≢true (sym e));
    clean = λ e. absurd (false≢true (sym e));
  }

-- ---- variables that are written before the first branch

module _ (program : Program) (facts : IsProgram program) (rules : IsWellFormed program) (function : ℕ) where
  -- a variable whose flag is set isn't lacking
  pub flagged_known : (position x : ℕ) (early : List Bool) → AreEarly program function position early → Holds program function position → IsFlagged (first_of program function) early x → Lacks program (Own x) position → ⊥
  flagged_known position x early are holds is lacks =
      let low = is.0 in
      let same : x ≡ first_of program function + (x - first_of program function) = omega arith in
      let lt = are (x - first_of program function) position is.1 holds (subst (λ (k : ℕ). Lacks program (Own k) position) same lacks) in
      omega (arith, lt)

  pub none_early : (position : ℕ) (early : List Bool) → AreUnset early → AreEarly program function position early
  none_early position early none index from is holds lacks = absurd (none index is)

  pub early_later : (position : ℕ) (early : List Bool) → AreEarly program function position early → AreEarly program function (position + 1) early
  early_later position early are index from is holds lacks = let lt = are index from is holds lacks in omega arith

  early_flagged : (position x : ℕ) (early : List Bool) → ((from : ℕ) → Holds program function from → Lacks program (Own x) from → from < position + 1)
      → AreEarly program function position early → AreEarly program function (position + 1) (flagged (first_of program function) early x)
  early_flagged position x early known are = by (nat_lt x (first_of program function)) refl
    where
      by : (b : Bool) → nat_lt x (first_of program function) ≡ b → AreEarly program function (position + 1) (if b then early else set early (x - first_of program function) true)
      by true e = early_later position early are
      by false e = λ index from is holds lacks.
          let above = ltb-false x (first_of program function) e in
          elim (set_cases early (x - first_of program function) index true true is) as (λ _. from < position + 1) [
            | inl same ↦
                let x_is : first_of program function + index ≡ x = omega (arith, same.0) in
                known from holds (subst (λ (k : ℕ). Lacks program (Own k) from) x_is lacks)
            | inr other ↦ let lt = are index from other.1 holds lacks in omega arith
          ]

  -- the flags behind one more command
  pub early_more : (position : ℕ) (here : Command) (early : List Bool) → Holds program function position → command_at program position ≡ Some here → IsStraight program function position
      → AreEarly program function position early → AreEarly program function (position + 1) (with_flag (first_of program function) early here)
  early_more position here early holds stands straight are = by here refl
    where
      -- a command that writes a variable doesn't leave
      known : (x : ℕ) → Makes here (Own x) → (Leaves here → ⊥) → (from : ℕ) → Holds program function from → Lacks program (Own x) from → from < position + 1
      known x makes stays from held lacks =
          let up = early_known program facts rules function x position from here holds stands makes (λ other any low lt at. elim (cases_lt other position) as (λ _. Leaves any → ⊥) [
            | inl less ↦ straight other any low less at
            | inr more ↦
                let same : position ≡ other = omega arith in
                subst (λ c. Leaves c → ⊥) (same_Some here any (sym stands ∙ ap (command_at program) same ∙ at)) stays
          ]) lacks held in
          omega arith

      by : (it : Command) → here ≡ it → AreEarly program function (position + 1) (with_flag (first_of program function) early it)
      by (command.Set mark op to a b c) e = early_flagged position to.0 early (known to.0 (subst (λ c. Makes c (Own to.0)) (sym e) refl) (subst (λ c. Leaves c → ⊥) (sym e) (λ l. l))) are
      by (command.Load mark kind memory to offset address) e = early_flagged position to.0 early (known to.0 (subst (λ c. Makes c (Own to.0)) (sym e) refl) (subst (λ c. Leaves c → ⊥) (sym e) (λ l. l))) are
      by _ e = early_later position early are

  pub straight_more : (position : ℕ) (here : Command) → command_at program position ≡ Some here → IsStraight program function position → (Leaves here → ⊥) → IsStraight program function (position + 1)
  straight_more position here stands straight stays other any low lt at = elim (cases_lt other position) as (λ _. Leaves any → ⊥) [
    | inl less ↦ straight other any low less at
    | inr more ↦
        let same : position ≡ other = omega arith in
        subst (λ c. Leaves c → ⊥) (same_Some here any (sym stands ∙ ap (command_at program) same ∙ at)) stays
  ]

  -- the same, where it is known whether a command before leaves
  pub early_noted : (straight : Bool) (position : ℕ) (here : Command) (early new : List Bool) → Holds program function position → command_at program position ≡ Some here
      → (straight ≡ true → IsStraight program function position) → new ≡ (if straight then with_flag (first_of program function) early here else early)
      → AreEarly program function position early → AreEarly program function (position + 1) new
  early_noted true position here early new holds stands straight is are =
      subst (AreEarly program function (position + 1)) (sym is) (early_more position here early holds stands (straight refl) are)
  early_noted false position here early new holds stands straight is are =
      subst (AreEarly program function (position + 1)) (sym is) (early_later position early are)

  pub straight_none : IsStraight program function (entry_of program function)
  straight_none other any low lt at = absurd (omega arith)

-- ---- position by position, and function by function

module _ (program : Program) where
  abbrev pub AreDefiniteBelow : ℕ → ℕ → Type 0
  AreDefiniteBelow function high = (from : ℕ) → from < high → Holds program function from → IsDefiniteAt program function from

  pub definite_none : (function : ℕ) → AreDefiniteBelow function (entry_of program function)
  definite_none function from lt holds = absurd (let low = holds.from in omega arith)

  pub definite_more : (function position : ℕ) (here : Command) (search : Search) → command_at program position ≡ Some here → AreDefiniteBelow function position
      → Answers program (Needs program function here) position false search → AreDefiniteBelow function (position + 1)
  definite_more function position here search stands below a other lt holds = elim (cases_lt other position) as (λ _. IsDefiniteAt program function other) [
    | inl less ↦ below other less holds
    | inr more ↦
        let same : position ≡ other = omega arith in
        subst (IsDefiniteAt program function) same (λ any fact at needs. a.has refl fact (subst (λ c. Needs program function c fact) (same_Some any here (sym at ∙ stands)) needs))
  ]

  pub finds_one : (function position : ℕ) (here : Command) (search : Search) → Holds program function position → command_at program position ≡ Some here → AreDefiniteBelow function position
      → Answers program (Needs program function here) position true search → Finds program function (Some position) search
  finds_one function position here search holds stands below a =
      let found = a.lacks refl in record {
        one = λ other e. subst (IsLackingIn program function) (same_Some position other e) (record {
          here = here;
          fact = found.0;
          holds = holds;
          stands = stands;
          needs = found.1;
          lacks = found.2;
          before = below;
        });
        none = λ e. absurd (none-some position (sym e));
        clean = λ e. absurd (none-some position (sym e));
      }

  pub finds_none : (function position : ℕ) (search : Search) → entry_of program (suc function) ≤ position → AreDefiniteBelow function position → IsClean program search → Finds program function None search
  finds_none function position search le below clean = record {
    one = λ other e. absurd (none-some other e);
    none = λ _ from holds. below from (let high = holds.below in omega arith) holds;
    clean = λ _. clean;
  }

  abbrev pub AreDefiniteBefore : ℕ → Type 0
  AreDefiniteBefore function = (other position : ℕ) → other < function → Holds program other position → IsDefiniteAt program other position

  pub before_more : (function : ℕ) → AreDefiniteBefore function → ((position : ℕ) → Holds program function position → IsDefiniteAt program function position) → AreDefiniteBefore (function + 1)
  before_more function before here other position lt holds = elim (cases_lt other function) as (λ _. IsDefiniteAt program other position) [
    | inl less ↦ before other position less holds
    | inr more ↦
        let same : other ≡ function = omega arith in
        subst (λ (f : ℕ). IsDefiniteAt program f position) (sym same) (here position (subst (λ (f : ℕ). Holds program f position) same holds))
  ]

  pub first_is : (function position : ℕ) → AreDefiniteBefore function → IsLackingIn program function position → IsFirstLacking program position
  first_is function position before is = record {
    function = function;
    here = is.here;
    fact = is.fact;
    holds = is.holds;
    stands = is.stands;
    needs = is.needs;
    lacks = is.lacks;
    before = λ other from lt holds. elim (cases_lt other function) as (λ _. IsDefiniteAt program other from) [
      | inl less ↦ before other from less holds
      | inr more ↦ elim (cases_lt function other) as (λ _. IsDefiniteAt program other from) [
        | inl less ↦
            let up = sum_up (λ (f : FunctionDef). f.length) program.functions (suc function) other (omega arith) in
            let high = is.holds.below in
            let low = holds.from in
            absurd (omega arith)
        | inr also ↦
            let same : other ≡ function = omega arith in
            subst (λ (f : ℕ). IsDefiniteAt program f from) (sym same) (is.before from lt (subst (λ (f : ℕ). Holds program f from) same holds))
      ]
    ];
  }

  pub definite_all : (count : ℕ) → length program.functions ≤ count → AreDefiniteBefore count → IsDefinite program
  definite_all count le before function position holds = before function position (let exists = holds.exists in omega arith) holds

  -- nothing was seen
  pub clean_begins : (count : ℕ) (search : Search) → count ≡ length program.commands → search.stamps.items ≡ replicate count None → search.waiting.items ≡ [] → IsClean program search
  clean_begins count search all stamps waiting = record {
    room = ap (length {A = Option Fact}) stamps ∙ length-replicate count None ∙ all;
    idle = waiting;
    each = λ position fact seen lacks. none-some fact (sym (in_replicate count position None (Some fact) (subst (λ (l : List (Option Fact)). slice_get l position ≡ Some (Some fact)) stamps seen)));
  }

pub flags_unset : (count : ℕ) (early : List Bool) → early ≡ replicate count false → AreUnset early
flags_unset count early same index is = false≢true (sym (in_replicate count index false true (subst (λ (l : List Bool). slice_get l index ≡ Some true) same is)))

-- a command without operands reads nothing
pub reads_nothing : (program : Program) (function : ℕ) (fact : Fact) → Reads program function [] fact → ⊥
reads_nothing program function fact (own x among local is) = among
reads_nothing program function fact (returned x any among result is) = among
