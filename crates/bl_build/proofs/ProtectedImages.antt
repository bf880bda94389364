-- The image of a program with other protects has as many bytes, and there is one where the program has one.
use Rattle.std.proofs.Common.{◌≡◌, ℕ, zero, suc, ◌+◌, Bool, List, [], ◌∷◌, ◌++◌, length, drop, refl, sym, ap, subst, ◌∙◌, arith}
use Rattle.std.specs.Prelude.{if◌then◌else◌}
use Rattle.std.proofs.lemmas.List.{length-append}
use Rattle.bl_program.specs.Programs.{IsProgram}
use Rattle.bl_program.specs.declared.command.Mark.{Mark}
use Rattle.bl_program.specs.declared.command.Command.{Command}
use Rattle.bl_program.specs.declared.command.Command.TheVariants.{Set, Load, Arg, Out}
use Rattle.bl_program.specs.declared.definitions.ProgramParts.{ProgramParts as Program}
use Rattle.bl_leb.specs.Grammar.{Spellings, ◌⨾◌}
use Rattle.bl_format.specs.Grammar.{each}
use Rattle.bl_format.specs.Image.{Image, command, image, mark}
use Rattle.bl_image.proofs.Prefixes.{one_image}
use Rattle.bl_cut.specs.Marks.{guarded, marked, marked_from, protected}

-- a spelling with as many bytes
abbrev Alike : Spellings → List ℕ → Type 0
Alike B bytes = (other : List ℕ) × B other × (length other ≡ length bytes)

itself : (B : Spellings) (bytes : List ℕ) → B bytes → Alike B bytes
itself B bytes h = (bytes, h, refl)

both : (A B C D : Spellings) → ((x : List ℕ) → A x → Alike C x) → ((x : List ℕ) → B x → Alike D x) → (bytes : List ℕ) → (A ⨾ B) bytes → Alike (C ⨾ D) bytes
both A B C D first second bytes h =
    let f = first h.front h.first in
    let s = second h.rest h.second in (
      f.0 ++ s.0,
      record { front = f.0; rest = s.0; whole = refl; first = f.1; second = s.1 },
      length-append f.0 s.0 ∙ (λ i. f.2 i + s.2 i) ∙ sym (length-append h.front h.rest) ∙ sym (ap length h.whole),
    )

-- something else first, and then the same
before : (A B C : Spellings) → ((x : List ℕ) → A x → Alike C x) → (bytes : List ℕ) → (A ⨾ B) bytes → Alike (C ⨾ B) bytes
before A B C first bytes h = both A B C B first (itself B) bytes h

mark_alike : (b : Bool) (m : Mark) (bytes : List ℕ) → mark (guarded b m) bytes → Alike (mark m) bytes
mark_alike b m bytes h = ((m.depth + (if m.protect then 8 else 0)) ∷ [], (h.0, refl), sym (ap length h.1))

-- a command with another mark
alike : (b : Bool) (one : Command) (bytes : List ℕ) → command (marked b one) bytes → Alike (command one) bytes
alike b (Set m op to a c d) bytes h =
    both _ _ _ _ (itself _) (λ x g. let f = before _ _ _ (before _ _ _ (mark_alike b m)) x g.1 in (f.0, (g.0, f.1), f.2)) bytes h
alike b (Load m kind space to offset address) bytes h =
    both _ _ _ _ (itself _) (λ x g. let f = before _ _ _ (mark_alike b m) x g.1 in (f.0, (g.0, f.1), f.2)) bytes h
alike b (Arg m callee index value) bytes h =
    both _ _ _ _ (itself _) (λ x g. let f = before _ _ _ (mark_alike b m) x g.1 in (f.0, (g.0, f.1), f.2)) bytes h
alike b (Out m index value) bytes h =
    both _ _ _ _ (itself _) (λ x g. let f = before _ _ _ (mark_alike b m) x g.1 in (f.0, (g.0, f.1), f.2)) bytes h
alike b _ bytes h = itself _ bytes h

all_alike : (set : ℕ → Bool) (i : ℕ) (commands : List Command) (bytes : List ℕ) → each command (marked_from set i commands) bytes → Alike (each command commands) bytes
all_alike set i [] bytes h = itself (each command []) bytes h
all_alike set i (one ∷ commands) bytes h =
    both (command (marked (set i) one)) (each command (marked_from set (suc i) commands)) (command one) (each command commands) (alike (set i) one) (all_alike set (suc i) commands) bytes h

behind : (set : ℕ → Bool) (n i : ℕ) (commands : List Command) → drop n (marked_from set i commands) ≡ marked_from set (n + i) (drop n commands)
behind set zero i commands = let same : i ≡ 0 + i = omega arith in ap (λ k. marked_from set k commands) same
behind set (suc n) i [] = refl
behind set (suc n) i (one ∷ commands) =
    let same : n + suc i ≡ suc n + i = omega arith in
    behind set n (suc i) commands ∙ ap (λ k. marked_from set k (drop n commands)) same

module _ (set : ℕ → Bool) (program : Program) where
  image_alike : (bytes : List ℕ) → image (protected set program) bytes → Alike (image program) bytes
  image_alike bytes h =
      both _ _ _ _ (itself _)
      (both _ _ _ _ (itself _)
      (both _ _ _ _ (itself _) (λ x g. all_alike set 7 (drop 7 program.commands) x (subst (λ l. each command l x) (behind set 7 0 program.commands) g)))) bytes h

  -- as many bytes as the program's own
  pub as_long : (bytes own : List ℕ) → Image (protected set program) bytes → Image program own → length bytes ≡ length own
  as_long bytes own h k =
      let other = image_alike bytes h.spelled in
      sym other.2 ∙ ap length (one_image program other.0 own (record { is_program = k.is_program; spelled = other.1 }) k)

-- ---- the other way

mark_on : (b : Bool) (m : Mark) (bytes : List ℕ) → mark m bytes → Alike (mark (guarded b m)) bytes
mark_on b m bytes h = ((m.depth + (if b then 8 else 0)) ∷ [], (h.0, refl), sym (ap length h.1))

command_on : (b : Bool) (one : Command) (bytes : List ℕ) → command one bytes → Alike (command (marked b one)) bytes
command_on b (Set m op to a c d) bytes h = both _ _ _ _ (itself _) (λ x g. let f = before _ _ _ (before _ _ _ (mark_on b m)) x g.1 in (f.0, (g.0, f.1), f.2)) bytes h
command_on b (Load m kind space to offset address) bytes h = both _ _ _ _ (itself _) (λ x g. let f = before _ _ _ (mark_on b m) x g.1 in (f.0, (g.0, f.1), f.2)) bytes h
command_on b (Arg m callee index value) bytes h = both _ _ _ _ (itself _) (λ x g. let f = before _ _ _ (mark_on b m) x g.1 in (f.0, (g.0, f.1), f.2)) bytes h
command_on b (Out m index value) bytes h = both _ _ _ _ (itself _) (λ x g. let f = before _ _ _ (mark_on b m) x g.1 in (f.0, (g.0, f.1), f.2)) bytes h
command_on b _ bytes h = itself _ bytes h

all_on : (set : ℕ → Bool) (i : ℕ) (commands : List Command) (bytes : List ℕ) → each command commands bytes → Alike (each command (marked_from set i commands)) bytes
all_on set i [] bytes h = itself (each command []) bytes h
all_on set i (one ∷ commands) bytes h =
    both (command one) (each command commands) (command (marked (set i) one)) (each command (marked_from set (suc i) commands)) (command_on (set i) one) (all_on set (suc i) commands) bytes h

module _ (set : ℕ → Bool) (program : Program) where
  image_on : (bytes : List ℕ) → image program bytes → Alike (image (protected set program)) bytes
  image_on bytes h =
      both _ _ _ _ (itself _)
      (both _ _ _ _ (itself _)
      (both _ _ _ _ (itself _) (λ x g.
      let found = all_on set 7 (drop 7 program.commands) x g in
      (found.0, subst (λ l. each command l found.0) (sym (behind set 7 0 program.commands)) found.1, found.2)))) bytes h

  -- the image with those protects
  pub protected_image : (own : List ℕ) → IsProgram (protected set program) → Image program own → (bytes : List ℕ) × Image (protected set program) bytes
  protected_image own facts h = let found = image_on own h.spelled in (found.0, record { is_program = facts; spelled = found.1 })
