-- A part whose numbers are moved by a shift stands in the whole (`Embeds`), where all that isn't the part's is the other part's.
use Rattle.std.proofs.Common.{◌≡◌, ◌⊎◌, inl, inr, ℕ, suc, ◌+◌, ◌-◌, ◌<◌, ◌≤◌, Bool, true, false, length, Some, slice_get, refl, sym, ap, ◌∙◌, subst, arith}
use Rattle.std.specs.Prelude.{if◌then◌else◌, nat_lt, option_map, unwrap_or}
use Rattle.std.proofs.lemmas.Bool.{cases_lt, ltb-true, ltb-false}
use Rattle.std.proofs.lemmas.Option.{slice_get_within}
use Rattle.bl_base.proofs.Lists.{all_get, within_get}
use Rattle.bl_program.specs.Layout.{statics, size_of, first_of, params_of, results_of, result, entry_of, command_at, Holds}
use Rattle.bl_program.specs.Programs.{IsProgram}
use Rattle.bl_program.specs.Rules.{GoesTo, IsFunction, IsLocal, IsOwn, IsReadable, IsResult, IsWellFormed, IsWritable}
use Rattle.bl_base.specs.declared.trap.Trap.{Trap as TrapKind}
use Rattle.bl_program.specs.declared.command.Command.{Command}
use Rattle.bl_program.specs.declared.command.Command.TheVariants.{Trap}
use Rattle.bl_program.specs.declared.definitions.FunctionDef.{FunctionDef}
use Rattle.bl_program.specs.declared.definitions.ProgramParts.{ProgramParts as Program}
use Rattle.bl_program.proofs.Layouts.{held_by, holds_within, next_entry, own_exists, result_own}
use Rattle.bl_iface.specs.JoinedProgram.{Renaming, moved_position, moved_var, renamed}
use Rattle.bl_iface.specs.declared.shift.Shift.{Shift}
use Rattle.bl_iface.proofs.EmbedLemmas.{Embeds, goes_renamed}

-- where a part's lists stand in those of the whole
pub record Shifted (part whole : Program) (shift : Shift) (n : Renaming) : Type 0 where
  pub globals : shift.globals + length part.globals ≤ length whole.globals
  pub sizes : shift.sizes + length part.globals ≡ length whole.globals + shift.memories
  pub memories : shift.memories + length part.memories ≤ length whole.memories
  pub memory_at : (m : ℕ) → m < length part.memories → slice_get whole.memories (shift.memories + m) ≡ slice_get part.memories m
  pub functions : shift.functions + length part.functions ≤ length whole.functions
  pub function_at : (f : ℕ) → f < length part.functions → slice_get whole.functions (shift.functions + f) ≡ slice_get part.functions f
  pub firsts : (f : ℕ) → f ≤ length part.functions → first_of whole (shift.functions + f) ≡ first_of part f + shift.vars
  pub entries : (f : ℕ) → f ≤ length part.functions → entry_of whole (shift.functions + f) ≡ entry_of part f + shift.commands
  pub commands : (p : ℕ) → 7 ≤ p → p < length part.commands → command_at whole (p + shift.commands) ≡ option_map (renamed n) (command_at part p)

-- a command of the whole that is one of the part's
pub record IsFrom (part : Program) (shift : Shift) (n : Renaming) (from : ℕ) (c : Command) : Type 0 where
  pub start : ℕ
  pub behind : 7 ≤ start
  pub moved : from ≡ start + shift.commands
  pub command : Command
  pub stands : command_at part start ≡ Some command
  pub is : c ≡ renamed n command

-- two parts and no more
pub record Split (part other whole : Program) (shift away : Shift) (n m : Renaming) : Type 0 where
  pub functions : (g : ℕ) → g < length whole.functions
      → ((h : ℕ) × (h < length part.functions) × (g ≡ shift.functions + h)) ⊎ ((h : ℕ) × (h < length other.functions) × (g ≡ away.functions + h))
  pub commands : (from : ℕ) (c : Command) → command_at whole from ≡ Some c
      → ((from < 7) × (kind : TrapKind) × (c ≡ Trap kind)) ⊎ (IsFrom part shift n from c ⊎ IsFrom other away m from c)
  pub apart : (p q : ℕ) → 7 ≤ p → p < length part.commands → 7 ≤ q → q < length other.commands → p + shift.commands ≡ q + away.commands → ⊥

-- what a part's commands read and call
pub record Reads (part whole : Program) (n : Renaming) (own : ℕ → ℕ) : Type 0 where
  pub readable : (f x : ℕ) → f < length part.functions → IsReadable part f x → IsReadable whole (own f) (n.read x)
  pub plain : (f x : ℕ) → IsWritable part f x → n.read x ≡ n.write x
  pub apart : (f x t : ℕ) → IsReadable part f x → IsLocal part f t → n.read x ≡ n.write t → x ≡ t
  pub callee : (g : ℕ) → g < length part.functions → (n.callee g < length whole.functions) × (params_of whole (n.callee g) ≡ params_of part g)

-- ---- numbers moved

module _ (shift : Shift) where
  pub moved_above : (p : ℕ) → 7 ≤ p → moved_position shift p ≡ p + shift.commands
  moved_above p le = by (nat_lt p 7) refl
    where
      by : (b : Bool) → nat_lt p 7 ≡ b → (if b then p else p + shift.commands) ≡ p + shift.commands
      by true e = let lt = ltb-true p 7 e in absurd (omega arith)
      by false e = refl

  pub moved_below : (p : ℕ) → p < 7 → moved_position shift p ≡ p
  moved_below p lt = by (nat_lt p 7) refl
    where
      by : (b : Bool) → nat_lt p 7 ≡ b → (if b then p else p + shift.commands) ≡ p
      by true e = refl
      by false e = let le = ltb-false p 7 e in absurd (omega arith)

  module _ (part : Program) where
    -- what a variable becomes
    pub moved_cases : (x : ℕ) → ((x < length part.globals) × (moved_var shift part x ≡ x + shift.globals))
        ⊎ (((length part.globals ≤ x) × (x < statics part) × (moved_var shift part x ≡ x + shift.sizes))
        ⊎ ((statics part ≤ x) × (moved_var shift part x ≡ x + shift.vars)))
    moved_cases x = by (nat_lt x (length part.globals)) (nat_lt x (statics part)) refl refl
      where
        by : (b c : Bool) → nat_lt x (length part.globals) ≡ b → nat_lt x (statics part) ≡ c
            → ((x < length part.globals) × ((if b then x + shift.globals else if c then x + shift.sizes else x + shift.vars) ≡ x + shift.globals))
            ⊎ (((length part.globals ≤ x) × (x < statics part) × ((if b then x + shift.globals else if c then x + shift.sizes else x + shift.vars) ≡ x + shift.sizes))
            ⊎ ((statics part ≤ x) × ((if b then x + shift.globals else if c then x + shift.sizes else x + shift.vars) ≡ x + shift.vars)))
        by true c e h = inl (ltb-true _ _ e, refl)
        by false true e h = inr (inl (ltb-false _ _ e, ltb-true _ _ h, refl))
        by false false e h = inr (inr (ltb-false _ _ h, refl))

    pub moved_own : (x : ℕ) → statics part ≤ x → moved_var shift part x ≡ x + shift.vars
    moved_own x le = elim (moved_cases x) as (λ _. moved_var shift part x ≡ x + shift.vars) [
      | inl low ↦ let lt = low.0 in absurd (omega arith)
      | inr rest ↦ elim rest as (λ _. moved_var shift part x ≡ x + shift.vars) [
        | inl size ↦ let lt = size.1 in absurd (omega arith)
        | inr own ↦ own.1
      ]
    ]

module _ (part whole : Program) (shift : Shift) (n : Renaming) (s : Shifted part whole shift n) where
  abbrev write : ℕ → ℕ
  write = moved_var shift part

  pub first_next : (f : ℕ) → f < length part.functions → first_of whole (suc (shift.functions + f)) ≡ first_of part (suc f) + shift.vars
  first_next f lt = let same : suc (shift.functions + f) ≡ shift.functions + suc f = omega arith in ap (first_of whole) same ∙ s.firsts (suc f) (omega arith)

  pub entry_next : (f : ℕ) → f < length part.functions → entry_of whole (suc (shift.functions + f)) ≡ entry_of part (suc f) + shift.commands
  entry_next f lt = let same : suc (shift.functions + f) ≡ shift.functions + suc f = omega arith in ap (entry_of whole) same ∙ s.entries (suc f) (omega arith)

  pub params_same : (f : ℕ) → f < length part.functions → params_of whole (shift.functions + f) ≡ params_of part f
  params_same f lt = ap (λ o. unwrap_or (option_map (λ (d : FunctionDef). length d.params) o) 0) (s.function_at f lt)

  pub results_same : (f : ℕ) → f < length part.functions → results_of whole (shift.functions + f) ≡ results_of part f
  results_same f lt = ap (λ o. unwrap_or (option_map (λ (d : FunctionDef). length d.results) o) 0) (s.function_at f lt)

  pub result_moved : (f i : ℕ) → f < length part.functions → result whole (shift.functions + f) i ≡ result part f i + shift.vars
  result_moved f i lt = let first = s.firsts f (omega arith) in let params = params_same f lt in omega arith

  -- ---- variables

  pub static_moved : (x : ℕ) → x < statics part → moved_var shift part x < statics whole
  static_moved x lt =
      let globals = s.globals in let sizes = s.sizes in let memories = s.memories in
      elim (moved_cases shift part x) as (λ _. write x < statics whole) [
        | inl low ↦ let is = low.1 in omega arith
        | inr rest ↦ elim rest as (λ _. write x < statics whole) [
          | inl size ↦ let is = size.2 in omega arith
          | inr own ↦ let le = own.0 in absurd (omega arith)
        ]
      ]

  pub own_moved : (f x : ℕ) → f < length part.functions → IsOwn part f x → IsOwn whole (shift.functions + f) (x + shift.vars)
  own_moved f x lt h =
      let low = h.0 in let high = h.1 in let first = s.firsts f (omega arith) in let next = first_next f lt in
      (omega arith, omega arith)

  pub is_result_moved : (f x : ℕ) → f < length part.functions → IsResult part f x → IsResult whole (shift.functions + f) (x + shift.vars)
  is_result_moved f x lt h =
      let low = h.0 in let high = h.1 in
      let zeroth = result_moved f 0 lt in
      let end : result whole (shift.functions + f) (results_of whole (shift.functions + f)) ≡ result part f (results_of part f) + shift.vars =
      ap (result whole (shift.functions + f)) (results_same f lt) ∙ result_moved f (results_of part f) lt in
      (omega arith, omega arith)

  pub is_result_back : (f x : ℕ) → f < length part.functions → IsResult whole (shift.functions + f) (x + shift.vars) → IsResult part f x
  is_result_back f x lt h =
      let low = h.0 in let high = h.1 in
      let zeroth = result_moved f 0 lt in
      let end : result whole (shift.functions + f) (results_of whole (shift.functions + f)) ≡ result part f (results_of part f) + shift.vars =
      ap (result whole (shift.functions + f)) (results_same f lt) ∙ result_moved f (results_of part f) lt in
      (omega arith, omega arith)

  pub own_is : (f x : ℕ) → IsOwn part f x → moved_var shift part x ≡ x + shift.vars
  own_is f x h = let low = h.0 in moved_own shift part x (omega arith)

  pub local_moved : (f x : ℕ) → IsLocal part f x → IsLocal whole (shift.functions + f) (moved_var shift part x)
  local_moved f x h =
      let lt = own_exists part f x h.0 in
      let is = own_is f x h.0 in (
        subst (IsOwn whole (shift.functions + f)) (sym is) (own_moved f x lt h.0),
        λ r. h.1 (is_result_back f x lt (subst (IsResult whole (shift.functions + f)) is r)),
      )

  pub size_moved : (m : ℕ) → m < length part.memories → moved_var shift part (size_of part m) ≡ size_of whole (shift.memories + m)
  size_moved m lt =
      let sizes = s.sizes in
      elim (moved_cases shift part (size_of part m)) as (λ _. moved_var shift part (size_of part m) ≡ size_of whole (shift.memories + m)) [
        | inl low ↦ let less = low.0 in absurd (omega arith)
        | inr rest ↦ elim rest as (λ _. moved_var shift part (size_of part m) ≡ size_of whole (shift.memories + m)) [
          | inl size ↦ let is = size.2 in omega arith
          | inr own ↦ let le = own.0 in absurd (omega arith)
        ]
      ]

  abbrev SizeBack : ℕ → ℕ → Type 0
  SizeBack x m = (k : ℕ) × (k < length part.memories) × (x ≡ size_of part k) × (shift.memories + k ≡ m)

  pub size_back : (f x m : ℕ) → IsWritable part f x → m < length whole.memories → moved_var shift part x ≡ size_of whole m
      → (k : ℕ) × (k < length part.memories) × (x ≡ size_of part k) × (shift.memories + k ≡ m)
  size_back f x m h lt same =
      let globals = s.globals in let sizes = s.sizes in
      elim (moved_cases shift part x) as (λ _. SizeBack x m) [
        | inl low ↦ let less = low.0 in let is = low.1 in absurd (omega arith)
        | inr rest ↦ elim rest as (λ _. SizeBack x m) [
          | inl size ↦ let le = size.0 in let less = size.1 in let is = size.2 in (x - length part.globals, omega arith, omega arith, omega arith)
          | inr far ↦ let le = far.0 in let is = far.1 in elim h as (λ _. SizeBack x m) [
            | inl less ↦ absurd (omega arith)
            | inr local ↦
                let there = own_moved f x (own_exists part f x local.0) local.0 in
                let low = there.0 in
                absurd (omega arith)
          ]
        ]
      ]

  -- reads that are moved as writes are
  pub reads_moved : IsWellFormed part → (f x : ℕ) → f < length part.functions → IsReadable part f x → IsReadable whole (shift.functions + f) (moved_var shift part x)
  reads_moved well f x lt h = elim h as (λ _. IsReadable whole (shift.functions + f) (moved_var shift part x)) [
    | inl low ↦ inl (static_moved x low)
    | inr rest ↦ elim rest as (λ _. IsReadable whole (shift.functions + f) (moved_var shift part x)) [
      | inl mine ↦ inr (inl (subst (IsOwn whole (shift.functions + f)) (sym (own_is f x mine)) (own_moved f x lt mine)))
      | inr any ↦
          let mine = result_own part any.0 x well.rule2 any.1 in
          let exists = own_exists part any.0 x mine in
          inr (inr (shift.functions + any.0, subst (IsResult whole (shift.functions + any.0)) (sym (own_is any.0 x mine)) (is_result_moved any.0 x exists any.1)))
    ]
  ]

  pub moved_apart : (f x t : ℕ) → IsLocal part f t → moved_var shift part x ≡ moved_var shift part t → x ≡ t
  moved_apart f x t local same =
      let low = local.0.0 in
      let is = own_is f t local.0 in
      let there = (own_moved f t (own_exists part f t local.0) local.0).0 in
      elim (cases_lt x (statics part)) as (λ _. x ≡ t) [
        | inl less ↦ let below = static_moved x less in absurd (omega arith)
        | inr more ↦ let moved = moved_own shift part x more in omega arith
      ]

  -- ---- positions

  pub holds_behind : (f p : ℕ) → Holds part f p → 7 ≤ p
  holds_behind f p h = let low = h.from in omega arith

  pub holds_moved : (f p : ℕ) → Holds part f p → Holds whole (shift.functions + f) (p + shift.commands)
  holds_moved f p h =
      let fit = s.functions in let lt = h.exists in
      let low = h.from in let high = h.below in
      let here = s.entries f (omega arith) in let next = entry_next f lt in
      record { exists = omega arith; from = omega arith; below = omega arith }

  pub same_moved : (p q : ℕ) → 7 ≤ p → moved_position shift q ≡ p + shift.commands → q ≡ p
  same_moved p q le same = elim (cases_lt q 7) as (λ _. q ≡ p) [
    | inl less ↦ let is = moved_below shift q less in absurd (omega arith)
    | inr more ↦ let is = moved_above shift q more in omega arith
  ]

-- the first position of a function of a well-formed program is its own
entry_held : (program : Program) → IsWellFormed program → (f : ℕ) → f < length program.functions → Holds program f (entry_of program f)
entry_held program well f lt =
    let got = within_get program.functions f lt in
    let next = next_entry program f got.0 got.1 in
    let one = (all_get IsFunction program.functions f got.0 well.rule2.each got.1).command in
    record { exists = lt; from = omega arith; below = omega arith }

module _ (part other whole : Program) (shift away : Shift) (n m : Renaming) (s : Shifted part whole shift n) (o : Shifted other whole away m)
    (split : Split part other whole shift away n m)
    (facts : IsProgram part) (well : IsWellFormed part) (other_facts : IsProgram other) (other_well : IsWellFormed other)
    (position_is : (p : ℕ) → n.position p ≡ moved_position shift p) (other_is : (p : ℕ) → m.position p ≡ moved_position away p)
    (write_is : (x : ℕ) → n.write x ≡ moved_var shift part x) (memory_is : (k : ℕ) → n.memory k ≡ shift.memories + k) where
  at_above : (p : ℕ) → 7 ≤ p → n.position p ≡ p + shift.commands
  at_above p le = position_is p ∙ moved_above shift p le

  -- a position of the part is none of the other's
  no_other : (f p g q : ℕ) → Holds part f p → Holds other g q → q + away.commands ≡ p + shift.commands → ⊥
  no_other f p g q h i same =
      split.apart p q (holds_behind part whole shift n s f p h) (holds_within part f p facts h) (holds_behind other whole away m o g q i) (holds_within other g q other_facts i) (sym same)

  enters : (f p g : ℕ) → Holds part f p → g < length whole.functions → entry_of whole g ≡ n.position p
      → (h : ℕ) × (h < length part.functions) × (entry_of part h ≡ p)
  enters f p g holds lt same =
      let there : n.position p ≡ p + shift.commands = at_above p (holds_behind part whole shift n s f p holds) in
      elim (split.functions g lt) as (λ _. (h : ℕ) × (h < length part.functions) × (entry_of part h ≡ p)) [
        | inl mine ↦
            let less = mine.1 in
            let is : entry_of part mine.0 + shift.commands ≡ p + shift.commands = sym (s.entries mine.0 (omega arith)) ∙ ap (entry_of whole) (sym mine.2) ∙ same ∙ there in
            (mine.0, mine.1, omega (arith, is))
        | inr its ↦
            let less = its.1 in
            let is : entry_of other its.0 + away.commands ≡ p + shift.commands = sym (o.entries its.0 (omega arith)) ∙ ap (entry_of whole) (sym its.2) ∙ same ∙ there in
            absurd (no_other f p its.0 (entry_of other its.0) holds (entry_held other other_well its.0 its.1) is)
      ]

  abbrev Comes : ℕ → ℕ → Type 0
  Comes p from = (start : ℕ) × (d : Command) × (from ≡ n.position start) × (command_at part start ≡ Some d) × GoesTo d p

  comes : (f p from : ℕ) (c : Command) → Holds part f p → command_at whole from ≡ Some c → GoesTo c (n.position p)
      → (start : ℕ) × (d : Command) × (from ≡ n.position start) × (command_at part start ≡ Some d) × GoesTo d p
  comes f p from c holds stands goes =
      let behind = holds_behind part whole shift n s f p holds in
      let there : n.position p ≡ p + shift.commands = at_above p behind in
      elim (split.commands from c stands) as (λ _. Comes p from) [
        | inl trap ↦ absurd (subst (λ k. GoesTo k (n.position p)) trap.2 goes)
        | inr some ↦ elim some as (λ _. Comes p from) [
          | inl mine ↦
              let found = goes_renamed n mine.command (n.position p) (subst (λ k. GoesTo k (n.position p)) mine.is goes) in
              let same : found.0 ≡ p = same_moved part whole shift n s p found.0 behind (sym (position_is found.0) ∙ found.2 ∙ there) in
              (mine.start, mine.command, mine.moved ∙ sym (at_above mine.start mine.behind), mine.stands, subst (GoesTo mine.command) same found.1)
          | inr its ↦
              let found = goes_renamed m its.command (n.position p) (subst (λ k. GoesTo k (n.position p)) its.is goes) in
              let at : m.position found.0 ≡ p + shift.commands = found.2 ∙ there in
              let held = held_by other its.start other_facts its.behind (slice_get_within other.commands its.start its.command its.stands) in
              elim ((other_well.rule5 its.start held.0 its.command held.1 its.stands).targets found.0 found.1) as (λ _. Comes p from) [
                | inl low ↦ let is : m.position found.0 ≡ found.0 = other_is found.0 ∙ moved_below away found.0 low in absurd (omega arith)
                | inr held' ↦
                    let is : m.position found.0 ≡ found.0 + away.commands = other_is found.0 ∙ moved_above away found.0 (holds_behind other whole away m o held.0 found.0 held') in
                    absurd (no_other f p held.0 found.0 holds held' (sym is ∙ at))
              ]
        ]
      ]

  pub embeds : Reads part whole n (λ f. shift.functions + f) → Embeds part whole n (λ f. shift.functions + f)
  embeds reads = record {
    exists = λ f lt. let fit = s.functions in omega arith;
    results = results_same part whole shift n s;
    callee = reads.callee;
    trap = λ p lt. let is : n.position p ≡ p = position_is p ∙ moved_below shift p lt in omega arith;
    holds = λ f p h. subst (Holds whole (shift.functions + f)) (sym (at_above p (holds_behind part whole shift n s f p h))) (holds_moved part whole shift n s f p h);
    next = λ f p h.
        let behind = holds_behind part whole shift n s f p h in
        let here = at_above p behind in let next = at_above (suc p) (omega arith) in
        omega arith;
    last = λ f p h ends.
        let here = at_above p (holds_behind part whole shift n s f p h) in
        let there = entry_next part whole shift n s f h.exists in
        omega arith;
    same = λ f p q h same.
        let behind = holds_behind part whole shift n s f p h in
        same_moved part whole shift n s p q behind (sym (position_is q) ∙ same ∙ at_above p behind);
    command = λ f p c h stands.
        let behind = holds_behind part whole shift n s f p h in
        ap (command_at whole) (at_above p behind) ∙ s.commands p behind (holds_within part f p facts h) ∙ ap (option_map (renamed n)) stands;
    enters = enters;
    comes = comes;
    readable = reads.readable;
    local = λ f x h. subst (IsLocal whole (shift.functions + f)) (sym (write_is x)) (local_moved part whole shift n s f x h);
    static = λ x lt. subst (λ k. k < statics whole) (sym (write_is x)) (static_moved part whole shift n s x lt);
    plain = reads.plain;
    apart = reads.apart;
    size = λ k lt. write_is (size_of part k) ∙ size_moved part whole shift n s k lt ∙ ap (size_of whole) (sym (memory_is k));
    no_size = λ f x k h lt same.
        let found = size_back part whole shift n s f x k h lt (sym (write_is x) ∙ same) in
        (found.0, found.1, found.2, memory_is found.0 ∙ found.3);
    memory = λ k lt. let fit = s.memories in let is = memory_is k in omega arith;
    memory_same = λ k lt. ap (slice_get whole.memories) (memory_is k) ∙ s.memory_at k lt;
  }
