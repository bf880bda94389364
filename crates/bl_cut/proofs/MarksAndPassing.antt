-- What passes in a program passes in the one with other protects.
use Rattle.std.proofs.Common.{◌≡◌, ℕ, Bool, Option, Some, None, sym, subst, ◌∙◌}
use Rattle.std.specs.Prelude.{IsSomeAnd, option_map}
use Rattle.bl_program.specs.Layout.{command_at}
use Rattle.bl_program.specs.Sites.{Among, Loads, moved_by, sunk_by, written_by, IsLoad, Writes, Reads, SinkReads}
use Rattle.bl_program.specs.declared.command.Command.{Command}
use Rattle.bl_program.specs.declared.command.Command.TheVariants.{Set}
use Rattle.bl_program.specs.declared.definitions.ProgramParts.{ProgramParts as Program}
use Rattle.bl_transient.specs.Transient.{Asked, FlowsUnder, Passes, nothing}
use Rattle.bl_cut.specs.Marks.{marked, protected}
use Rattle.bl_cut.proofs.MarkedPrograms.{moved_same, sunk_same, written_same}
use Rattle.bl_cut.proofs.MarkedRuns.{command_is}

some_back : {X Y : Type 0} (P : X → Type 0) (Q : Y → Type 0) (f : X → Y) (o : Option X) → ((x : X) → Q (f x) → P x) → IsSomeAnd (option_map f o) Q → IsSomeAnd o P
some_back P Q f None each h = h
some_back P Q f (Some x) each h = each x h

pub loads_back : (b : Bool) (command : Command) → Loads (marked b command) → Loads command
loads_back b (Set mark op to a c d) h = h
loads_back b _ h = h

module _ (set : ℕ → Bool) (program : Program) where
  abbrev after : Program
  after = protected set program

  -- what holds of the command at a position with its mark holds of the command
  at_position : (P Q : Command → Type 0) (s : ℕ) → ((command : Command) → Q (marked (set s) command) → P command) → IsSomeAnd (command_at after s) Q → IsSomeAnd (command_at program s) P
  at_position P Q s each h = some_back P Q (marked (set s)) (command_at program s) each (subst (λ o. IsSomeAnd o Q) (command_is set program s) h)

  pub load_back : (s : ℕ) → IsLoad after s → IsLoad program s
  load_back s h = at_position Loads Loads s (loads_back (set s)) h

  writes_back : (s x : ℕ) → Writes after s x → Writes program s x
  writes_back s x h =
      at_position (λ command. written_by program s command ≡ Some x) (λ command. written_by after s command ≡ Some x) s (λ command e. sym (written_same set program (set s) s command) ∙ e) h

  reads_back : (s x : ℕ) → Reads after s x → Reads program s x
  reads_back s x h =
      at_position (λ command. Among (moved_by command) x) (λ command. Among (moved_by command) x) s (λ command e. subst (λ l. Among l x) (moved_same (set s) command) e) h

  sinks_back : (s x : ℕ) → SinkReads after s x → SinkReads program s x
  sinks_back s x h =
      at_position (λ command. Among (sunk_by command) x) (λ command. Among (sunk_by command) x) s (λ command e. subst (λ l. Among l x) (sunk_same (set s) command) e) h

  pub flows_on : (asked : Asked) (typing chosen : ℕ → Bool) → FlowsUnder asked program typing chosen → FlowsUnder asked after typing chosen
  flows_on asked typing chosen flows = record {
    assigns = record {
      loads = λ s x load writes free. flows.assigns.loads s x (load_back s load) (writes_back s x writes) free;
      moves = λ s x y reads writes free transient. flows.assigns.moves s x y (reads_back s x reads) (writes_back s y writes) free transient;
      given = flows.assigns.given;
    };
    sinks = λ position x reads. flows.sinks position x (sinks_back position x reads);
    stable = flows.stable;
  }

  pub passes_on : (chosen : ℕ → Bool) → Passes program chosen → Passes after chosen
  passes_on chosen p = (p.0, flows_on nothing p.0 chosen p.1)
