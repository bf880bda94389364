-- What commands read and write as lists, and as decisions.
use Rattle.std.proofs.Common.{◌≡◌, ◌<◌, ◌↔◌, inl, inr, ℕ, zero, suc, List, [], ◌∷◌, ◌++◌, map, Option, Some, None, sym, ap, subst, arith}
use Rattle.std.specs.Prelude.{IsSomeAnd}
use Rattle.std.specs.List.{Contains}
use Rattle.std.proofs.lemmas.Option.{none-some, same_Some, slice_get_within}
use Rattle.std.proofs.lemmas.List.Elements.{Contains-append_cases, Contains-append_left, Contains-append_right}
use Rattle.bl_base.proofs.Sums.{last_or_before}
use Rattle.bl_base.proofs.Members.{first_in, from_map, in_cases, in_map, later_in, none_in}
use Rattle.bl_base.proofs.Decisions.{Decided, decided_as, decided_in, decided_some}
use Rattle.bl_base.proofs.OptionLemmas.{some_with}
use Rattle.bl_program.specs.Layout.{command_at}
use Rattle.bl_program.specs.Sites.{Among, IsLoad, Loads, Reads, SinkReads, Writes, moved_by, sunk_by, written_by}
use Rattle.bl_program.specs.declared.command.Command.{Command}
use Rattle.bl_program.specs.declared.command.Command.TheVariants.{Load}
use Rattle.bl_program.specs.declared.command.Operand.{Operand}
use Rattle.bl_program.specs.declared.command.Operand.TheVariants.{Var, Const}
use Rattle.bl_program.specs.declared.definitions.ProgramParts.{ProgramParts as Program}
use Rattle.bl_graph.specs.Graphs.{use_of}
use Rattle.bl_graph.specs.Ranges.{commands}
use Rattle.bl_graph.specs.declared.facts.Use.{Use}

-- the variables among operands
abbrev pub names : List Operand → List ℕ
names [] = []
names (Var x ∷ operands) = x.0 ∷ names operands
names (Const number ∷ operands) = names operands

in_names : (operands : List Operand) (x : ℕ) → Among operands x → Contains (names operands) x
in_names [] x h = absurd h
in_names (Var y ∷ operands) x (inl e) = subst (Contains (y.0 ∷ names operands)) e (first_in y.0 (names operands))
in_names (Var y ∷ operands) x (inr h) = later_in y.0 x (names operands) (in_names operands x h)
in_names (Const number ∷ operands) x (inl e) = absurd e
in_names (Const number ∷ operands) x (inr h) = in_names operands x h

from_names : (operands : List Operand) (x : ℕ) → Contains (names operands) x → Among operands x
from_names [] x h = absurd (none_in x h)
from_names (Var y ∷ operands) x h =
    elim (in_cases y.0 x (names operands) h) as (λ _. Among (Var y ∷ operands) x) [ inl e ↦ inl e | inr rest ↦ inr (from_names operands x rest) ]
from_names (Const number ∷ operands) x h = inr (from_names operands x h)

pub names_are : (operands : List Operand) (x : ℕ) → Contains (names operands) x ↔ Among operands x
names_are operands x = (from_names operands x, in_names operands x)

-- the number, where there is one
abbrev pub one : Option ℕ → List ℕ
one None = []
one (Some x) = x ∷ []

pub one_is : (o : Option ℕ) (x : ℕ) → Contains (one o) x ↔ (o ≡ Some x)
one_is None x = ((λ h. absurd (none_in x h)), (λ e. absurd (none-some x e)))
one_is (Some y) x = (
  (λ h. elim (in_cases y x [] h) as (λ _. Some y ≡ Some x) [ inl e ↦ ap Some e | inr h ↦ absurd (none_in x h) ]),
  (λ e. subst (Contains (y ∷ [])) (same_Some y x e) (first_in y [])),
)

-- what is listed of a command, where one stands
abbrev listed : (Command → List ℕ) → Option Command → List ℕ
listed f None = []
listed f (Some command) = f command

module _ (f : Command → List ℕ) (Is : Command → ℕ → Type 0) (are : (command : Command) (x : ℕ) → Contains (f command) x ↔ Is command x) where
  listed_is : (o : Option Command) (x : ℕ) → Contains (listed f o) x ↔ IsSomeAnd o (λ command. Is command x)
  listed_is None x = ((λ h. none_in x h), (λ h. absurd h))
  listed_is (Some command) x = are command x

  decided_of : (P : ℕ → Type 0) → ((x : ℕ) → Decided (P x)) → (o : Option Command) → Decided ((x : ℕ) × IsSomeAnd o (λ command. Is command x) × P x)
  decided_of P each o =
      decided_as (λ h. (h.0, (listed_is o h.0).0 h.1, h.2)) (λ h. (h.0, (listed_is o h.0).1 h.1, h.2)) (decided_in P each (listed f o))

decided_loads : (command : Command) → Decided (Loads command)
decided_loads (Load mark kind memory to offset address) = inl tt
decided_loads _ = inr (λ h. h)

module _ (program : Program) (s : ℕ) where
  -- where something stands, a command does
  pub stands_below : (P : Command → Type 0) → IsSomeAnd (command_at program s) P → s < commands program
  stands_below P h = let found = some_with (command_at program s) P h in slice_get_within program.commands s found.0 found.1

  pub decided_load : Decided (IsLoad program s)
  decided_load = decided_some Loads decided_loads (command_at program s)

  module _ (P : ℕ → Type 0) (each : (x : ℕ) → Decided (P x)) where
    pub decided_read : Decided ((x : ℕ) × Reads program s x × P x)
    decided_read = decided_of (λ command. names (moved_by command)) (λ command. Among (moved_by command)) (λ command. names_are (moved_by command)) P each (command_at program s)

    pub decided_sink : Decided ((x : ℕ) × SinkReads program s x × P x)
    decided_sink = decided_of (λ command. names (sunk_by command)) (λ command. Among (sunk_by command)) (λ command. names_are (sunk_by command)) P each (command_at program s)

    pub decided_write : Decided ((x : ℕ) × Writes program s x × P x)
    decided_write =
        decided_of (λ command. one (written_by program s command)) (λ command x. written_by program s command ≡ Some x)
        (λ command. one_is (written_by program s command)) P each (command_at program s)

-- ---- uses

-- the uses of the positions below one, by what each has
uses_below : (ℕ → List ℕ) → ℕ → List Use
uses_below f zero = []
uses_below f (suc n) = uses_below f n ++ map (use_of n) (f n)

in_uses : (f : ℕ → List ℕ) (n s x : ℕ) → s < n → Contains (f s) x → Contains (uses_below f n) (use_of s x)
unfolding uses_below
in_uses f zero s x lt h = absurd (omega arith)
in_uses f (suc n) s x lt h =
    elim (last_or_before n s lt) as (λ _. Contains (uses_below f n ++ map (use_of n) (f n)) (use_of s x)) [
      | inl same ↦
          subst (λ k. Contains (uses_below f n ++ map (use_of n) (f n)) (use_of k x)) (sym same)
          (Contains-append_right (uses_below f n) (map (use_of n) (f n)) (use_of n x) (in_map (use_of n) (f n) x (subst (λ k. Contains (f k) x) same h)))
      | inr less ↦ Contains-append_left (uses_below f n) (map (use_of n) (f n)) (use_of s x) (in_uses f n s x less h)
    ]

from_uses : (f : ℕ → List ℕ) (n s x : ℕ) → Contains (uses_below f n) (use_of s x) → Contains (f s) x
unfolding uses_below
from_uses f zero s x h = absurd (none_in (use_of s x) h)
from_uses f (suc n) s x h =
    elim (Contains-append_cases (uses_below f n) (map (use_of n) (f n)) (use_of s x) h) as (λ _. Contains (f s) x) [
      | inl there ↦ from_uses f n s x there
      | inr here ↦
          let y = from_map (use_of n) (f n) (use_of s x) here in
          subst (λ k. Contains (f k) x) (ap (λ (u : Use). u.at.0) y.2) (subst (Contains (f n)) (ap (λ (u : Use). u.var.0) y.2) y.1)
    ]

-- lists with exactly what a program's relations have
pub record Lists (program : Program) : Type 0 where
  pub writes : List Use
  pub reads : List Use
  pub sinks : List Use
  pub writes_are : (s x : ℕ) → Contains writes (use_of s x) ↔ Writes program s x
  pub reads_are : (s x : ℕ) → Contains reads (use_of s x) ↔ Reads program s x
  pub sinks_are : (position x : ℕ) → Contains sinks (use_of position x) ↔ SinkReads program position x

module _ (program : Program) where
  abbrev uses_of : (ℕ → Command → List ℕ) → List Use
  uses_of f = uses_below (λ s. listed (f s) (command_at program s)) (commands program)

  uses_are : (f : ℕ → Command → List ℕ) (Is : ℕ → Command → ℕ → Type 0) → ((s : ℕ) (command : Command) (x : ℕ) → Contains (f s command) x ↔ Is s command x)
      → (s x : ℕ) → Contains (uses_of f) (use_of s x) ↔ IsSomeAnd (command_at program s) (λ command. Is s command x)
  uses_are f Is are s x =
      let here = listed_is (f s) (Is s) (are s) (command_at program s) x in (
        (λ h. here.0 (from_uses (λ s. listed (f s) (command_at program s)) (commands program) s x h)),
        (λ h. in_uses (λ s. listed (f s) (command_at program s)) (commands program) s x (stands_below program s (λ command. Is s command x) h) (here.1 h)),
      )

  pub lists_of : Lists program
  lists_of = record {
    writes = uses_of (λ s command. one (written_by program s command));
    reads = uses_of (λ s command. names (moved_by command));
    sinks = uses_of (λ s command. names (sunk_by command));
    writes_are = uses_are (λ s command. one (written_by program s command)) (λ s command x. written_by program s command ≡ Some x) (λ s command. one_is (written_by program s command));
    reads_are = uses_are (λ s command. names (moved_by command)) (λ s command. Among (moved_by command)) (λ s command. names_are (moved_by command));
    sinks_are = uses_are (λ s command. names (sunk_by command)) (λ s command. Among (sunk_by command)) (λ s command. names_are (sunk_by command));
  }
