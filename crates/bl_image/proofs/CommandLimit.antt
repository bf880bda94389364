-- Programs of more commands than the limit, and why an image is refused.
use Rattle.std.proofs.Common.{◌≡◌, ℕ, zero, suc, ◌+◌, ◌<◌, ◌≤◌, List, [], ◌∷◌, ◌++◌, length, get_or, min, sym, ◌∙◌, refl, subst, arith, length-append, Result, Ok, Err, IfOk, IfErr}
use Rattle.bl_base.specs.Quantity.{limit_of}
use Rattle.bl_base.specs.declared.quantity.Quantity.TheVariants.{Commands}
use Rattle.bl_base.specs.declared.trap.Trap.TheVariants.{Unreachable, DivideByZero, Overflow, OutOfBounds, UndefinedElement, UninitializedElement, TypeMismatch}
use Rattle.bl_program.specs.Layout.{entry_of}
use Rattle.bl_program.specs.Programs.{IsCommand, IsProgram, IsTrapAt}
use Rattle.bl_program.specs.Rules.{Rule1, Breaks, IsFirstBroken, IsWellFormed}
use Rattle.bl_program.specs.declared.command.Command.{Command}
use Rattle.bl_program.specs.declared.definitions.Demand.{Demand}
use Rattle.bl_program.specs.declared.definitions.ExportDef.{ExportDef}
use Rattle.bl_program.specs.declared.definitions.FunctionDef.{FunctionDef}
use Rattle.bl_program.specs.declared.definitions.GlobalDef.{GlobalDef}
use Rattle.bl_program.specs.declared.definitions.MemoryDef.{MemoryDef}
use Rattle.bl_program.specs.declared.definitions.SiteWeight.{SiteWeight}
use Rattle.bl_program.specs.declared.definitions.ProgramParts.{ProgramParts as Program}
use Rattle.bl_image.specs.declared.error.ImageError.{ImageError}
use Rattle.bl_image.specs.declared.error.ImageError.TheVariants.{NotAnImage, IllFormed, Memory}
use Rattle.bl_format.specs.Grammar.{each}
use Rattle.bl_format.specs.Image.{command, Image}
use Rattle.bl_image.specs.ReaderAnswers.{BreaksOne, Fills, Fronts, IsLarge, IsPartsReason, IsReason, RefusesMany, Spells, alone, refusal_by, traps, with_commands}
use Rattle.bl_image.proofs.Prefixes.{one_program}

-- ---- that parts are a program's

-- what is spelled are commands
commands_are : (xs : List Command) (t : List ℕ) → each command xs t → (k : ℕ) (d : Command) → k < length xs → IsCommand (get_or xs k d)
commands_are [] t h k d less = absurd (omega arith)
commands_are (x ∷ xs) t h zero d less = h.first.second.0
commands_are (x ∷ xs) t h (suc k) d less = commands_are xs h.rest h.second k d (omega arith)

-- so are the traps
all_are : (xs : List Command) (t : List ℕ) → each command xs t → (k : ℕ) (d : Command) → k < length (traps ++ xs) → IsCommand (get_or (traps ++ xs) k d)
all_are xs t h zero d less = tt
all_are xs t h (suc zero) d less = tt
all_are xs t h (suc (suc zero)) d less = tt
all_are xs t h (suc (suc (suc zero))) d less = tt
all_are xs t h (suc (suc (suc (suc zero)))) d less = tt
all_are xs t h (suc (suc (suc (suc (suc zero))))) d less = tt
all_are xs t h (suc (suc (suc (suc (suc (suc zero)))))) d less = tt
all_are xs t h (suc (suc (suc (suc (suc (suc (suc k))))))) d less = commands_are xs t h k d (omega arith)

traps_at : (xs : List Command) (i : ℕ) → i < 7 → IsTrapAt (traps ++ xs) i
traps_at xs zero less = (Unreachable, refl, refl)
traps_at xs (suc zero) less = (DivideByZero, refl, refl)
traps_at xs (suc (suc zero)) less = (Overflow, refl, refl)
traps_at xs (suc (suc (suc zero))) less = (OutOfBounds, refl, refl)
traps_at xs (suc (suc (suc (suc zero)))) less = (UndefinedElement, refl, refl)
traps_at xs (suc (suc (suc (suc (suc zero))))) less = (UninitializedElement, refl, refl)
traps_at xs (suc (suc (suc (suc (suc (suc zero)))))) less = (TypeMismatch, refl, refl)
traps_at xs (suc (suc (suc (suc (suc (suc (suc i))))))) less = absurd (omega arith)

-- commands that are spelled, as many as the functions have, make a program of what stands in front of them
pub is_program : (front : Program) (xs : List Command) (t : List ℕ) → each command xs t → 7 + length xs ≡ entry_of front (length front.functions) → IsProgram (with_commands front xs)
is_program front xs t h sum = record {
  commands = all_are xs t h;
  traps = traps_at xs;
  lengths = length-append traps xs ∙ sum;
}

-- so they make a large one
pub large_found : (bytes rest : List ℕ) (front : Program) (xs : List Command) → Fronts bytes front rest → Fills command rest xs → 7 + length xs ≡ entry_of front (length front.functions) → limit_of Commands < entry_of front (length front.functions) → IsLarge bytes front.memories
large_found bytes rest front xs p fills sum many =
    let is = is_program front xs rest fills.spelled sum in
    record {
      program = with_commands front xs;
      is_image = record { is_program = is; spelled = p.joins xs fills.spelled };
      memories_same = refl;
      many = subst (λ (n : ℕ). limit_of Commands < n) (sym is.lengths) many;
    }

-- ---- which rule is broken

-- each rule has a number
positive : (rule position : ℕ) (program : Program) → Breaks rule position program → 1 ≤ rule
positive rule position program (Breaks.memories is at_0 never) = omega arith
positive rule position program (Breaks.functions is at_0 never) = omega arith
positive rule position program (Breaks.exports is at_0 never) = omega arith
positive rule position program (Breaks.variables is never) = omega arith
positive rule position program (Breaks.targets is never) = omega arith
positive rule position program (Breaks.ranges is never) = omega arith
positive rule position program (Breaks.accesses is never) = omega arith
positive rule position program (Breaks.growths is never) = omega arith
positive rule position program (Breaks.demands is at_0 never) = omega arith

-- rule 1 is that of memories
broken_one : (rule position : ℕ) (program : Program) → rule ≡ 1 → Breaks rule position program → Rule1 program → ⊥
broken_one rule position program one (Breaks.memories is at_0 never) = never
broken_one rule position program one (Breaks.functions is at_0 never) = absurd (omega arith)
broken_one rule position program one (Breaks.exports is at_0 never) = absurd (omega arith)
broken_one rule position program one (Breaks.variables is never) = absurd (omega arith)
broken_one rule position program one (Breaks.targets is never) = absurd (omega arith)
broken_one rule position program one (Breaks.ranges is never) = absurd (omega arith)
broken_one rule position program one (Breaks.accesses is never) = absurd (omega arith)
broken_one rule position program one (Breaks.growths is never) = absurd (omega arith)
broken_one rule position program one (Breaks.demands is at_0 never) = absurd (omega arith)

-- a program that keeps all rules breaks none
none_broken : (rule position : ℕ) (program : Program) → IsWellFormed program → Breaks rule position program → ⊥
none_broken rule position program well (Breaks.memories is at_0 never) = never well.rule1
none_broken rule position program well (Breaks.functions is at_0 never) = never well.rule2
none_broken rule position program well (Breaks.exports is at_0 never) = never well.rule3
none_broken rule position program well (Breaks.variables is never) = never (well.rule4 position)
none_broken rule position program well (Breaks.targets is never) = never (well.rule5 position)
none_broken rule position program well (Breaks.ranges is never) = never (well.rule6 position)
none_broken rule position program well (Breaks.accesses is never) = never (well.rule7 position)
none_broken rule position program well (Breaks.growths is never) = never (well.rule8 position)
none_broken rule position program well (Breaks.demands is at_0 never) = never well.rule9

-- memories alone are a program's
pub alone_is : (memories : List MemoryDef) → IsProgram (alone memories)
alone_is memories = is_program (alone memories) [] [] refl refl

-- what `check` says of them tells which rule a large program breaks first
pub by_well : (memories : List MemoryDef) → IsWellFormed (alone memories) → BreaksOne memories 2
by_well memories well = BreaksOne.second refl (λ never. never well.rule1)

pub by_broken : (memories : List MemoryDef) (rule position : ℕ) → IsFirstBroken rule position (alone memories) → BreaksOne memories (min rule 2)
by_broken memories rule position p = by rule refl
  where
    by : (k : ℕ) → k ≡ rule → BreaksOne memories (min k 2)
    by zero e = absurd (let some = positive rule position (alone memories) p.broken in omega arith)
    by (suc zero) e = BreaksOne.first refl (broken_one rule position (alone memories) (sym e) p.broken)
    by (suc (suc k)) e =
        BreaksOne.second (omega arith)
        (λ never.
        let at_0 = p.least_position 1 0 (Breaks.memories refl refl never) in
        let same : 0 ≡ position = omega arith in
        let least = p.least_rule 1 (Breaks.memories refl (sym same) never) in
        omega arith)

same_memories : (program : Program) (memories : List MemoryDef) → program.memories ≡ memories → Rule1 program → Rule1 (alone memories)
same_memories program memories e rule = subst (λ ms. Rule1 (alone ms)) e (record { memories = rule.memories; total = rule.total })

other_memories : (program : Program) (memories : List MemoryDef) → program.memories ≡ memories → Rule1 (alone memories) → Rule1 program
other_memories program memories e rule = let same : Rule1 (alone program.memories) = subst (λ ms. Rule1 (alone ms)) (sym e) rule in record { memories = same.memories; total = same.total }

first_of_large : (bytes : List ℕ) (memories : List MemoryDef) (rule : ℕ) (p : IsLarge bytes memories) → BreaksOne memories rule → IsFirstBroken rule 0 p.program
first_of_large bytes memories rule p (BreaksOne.first is never) = record {
  broken = Breaks.memories is refl (λ keeps. never (same_memories p.program memories p.memories_same keeps));
  least_position = λ other from b. omega arith;
  least_rule = λ other b. let some = positive other 0 p.program b in omega arith;
}
first_of_large bytes memories rule p (BreaksOne.second is never) = record {
  broken = Breaks.functions is refl (λ keeps. let few = keeps.commands in let many = p.many in omega arith);
  least_position = λ other from b. omega arith;
  least_rule = λ other b. by other b other refl;
}
  where
    by : (other : ℕ) → Breaks other 0 p.program → (k : ℕ) → k ≡ other → rule ≤ other
    by other b zero e = let some = positive other 0 p.program b in omega arith
    by other b (suc zero) e = absurd (never (λ keeps. broken_one other 0 p.program (sym e) b (other_memories p.program memories p.memories_same keeps)))
    by other b (suc (suc k)) e = omega arith

-- the parts that are made of memories alone
abbrev pub made : List GlobalDef → List MemoryDef → List FunctionDef → List ExportDef → List Command → List Demand → List SiteWeight → Program
made gs ms fs es cs ds ws = record { globals = gs; memories = ms; functions = fs; exports = es; commands = cs; demands = ds; weights = ws }

pub alone_same : (gs : List GlobalDef) (ms : List MemoryDef) (fs : List FunctionDef) (es : List ExportDef) (cs : List Command) (ds : List Demand) (ws : List SiteWeight)
    → gs ≡ [] → fs ≡ [] → es ≡ [] → cs ≡ traps → ds ≡ [] → ws ≡ [] → made gs ms fs es cs ds ws ≡ alone ms
alone_same gs ms fs es cs ds ws g f e c d w = rw (g, f, e, c, d, w) refl

pub large_refused : (memories : List MemoryDef) (parts : Program) (found : Result Program ImageError) → parts ≡ alone memories
    → IfOk found (λ program. (program ≡ parts) × IsProgram parts × IsWellFormed parts) → IfErr found (IsPartsReason parts) → RefusesMany memories (refusal_by found)
large_refused memories parts (Ok program) e ok refused = (refl, by_well memories (subst IsWellFormed e ok.2))
large_refused memories parts (Err NotAnImage) e ok refused = refused (subst IsProgram (sym e) (alone_is memories))
large_refused memories parts (Err (IllFormed rule position)) e ok refused =
    (refl, by_broken memories rule position.0 (subst (λ (p : Program). IsFirstBroken rule position.0 p) e refused.1))
large_refused memories parts (Err Memory) e ok refused = tt

-- ---- why an image is refused

pub reason_large : (bytes : List ℕ) (memories : List MemoryDef) (error : ImageError) → IsLarge bytes memories → RefusesMany memories error → IsReason bytes error
reason_large bytes memories NotAnImage p h = absurd h
reason_large bytes memories (IllFormed rule position) p h =
    (p.program, p.is_image, subst (λ (n : ℕ). IsFirstBroken rule n p.program) (sym h.0) (first_of_large bytes memories rule p h.1))
reason_large bytes memories Memory p h = tt

pub reason_parts : (bytes : List ℕ) (parts : Program) (error : ImageError) → Spells bytes parts → IsPartsReason parts error → IsReason bytes error
reason_parts bytes parts NotAnImage p h = λ program is. h (subst IsProgram (p.only program is) is.is_program)
reason_parts bytes parts (IllFormed rule position) p h = (parts, record { is_program = h.0; spelled = p.spelled }, h.1)
reason_parts bytes parts Memory p h = tt

pub whole_refused : (bytes : List ℕ) (parts : Program) (found : Result Program ImageError) → Spells bytes parts → IfErr found (IsPartsReason parts) → IfErr found (λ error. IsReason bytes error)
whole_refused bytes parts (Ok program) p h = h
whole_refused bytes parts (Err error) p h = reason_parts bytes parts error p h

-- the image of a well-formed program is refused for want of memory alone
pub memory_alone : (bytes : List ℕ) (error : ImageError) → IsReason bytes error → (program : Program) → Image program bytes → IsWellFormed program → error ≡ Memory
memory_alone bytes NotAnImage h program is well = absurd (h program is)
memory_alone bytes (IllFormed rule position) h program is well =
    absurd (none_broken rule position.0 program well (subst (λ (q : Program). Breaks rule position.0 q) (one_program h.0 program bytes h.1 is) h.2.broken))
memory_alone bytes Memory h program is well = refl

pub whole_alone : (bytes : List ℕ) (parts : Program) (found : Result Program ImageError) → Spells bytes parts → IfErr found (IsPartsReason parts) → (program : Program) → Image program bytes → IsWellFormed program
    → IfErr found (λ error. error ≡ Memory)
whole_alone bytes parts (Ok other) p h program is well = h
whole_alone bytes parts (Err error) p h program is well = memory_alone bytes error (reason_parts bytes parts error p h) program is well
