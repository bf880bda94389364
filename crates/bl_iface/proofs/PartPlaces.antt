-- Where the client and the library stand in the joined program.
use Rattle.std.proofs.Common.{◌≡◌, ◌⊎◌, inl, inr, ℕ, ◌+◌, ◌-◌, ◌<◌, ◌≤◌, List, ◌++◌, length, map, take, drop, Option, Some, None, slice_get, refl, sym, ap, ◌∙◌, arith}
use Rattle.std.specs.Prelude.{option_map}
use Rattle.std.proofs.lemmas.Bool.{cases_lt}
use Rattle.std.proofs.lemmas.List.{length-append, length-drop, length-map, length-take-le}
use Rattle.std.proofs.lemmas.Option.{none-some, same_Some, slice_get-map}
use Rattle.bl_program.specs.Layout.{first_of, entry_of, command_at}
use Rattle.bl_program.specs.Programs.{IsProgram}
use Rattle.bl_base.specs.declared.trap.Trap.{Trap as TrapKind}
use Rattle.bl_program.specs.declared.command.Command.{Command}
use Rattle.bl_program.specs.declared.command.Command.TheVariants.{Trap}
use Rattle.bl_program.specs.declared.definitions.FunctionDef.{FunctionDef}
use Rattle.bl_program.specs.declared.definitions.ProgramParts.{ProgramParts as Program}
use Rattle.bl_program.proofs.AppendLemmas.{get_left, get_right, get_take, get_drop, sum_left, sum_right}
use Rattle.bl_iface.specs.JoinedProgram.{client_numbers, client_shift, joined, library_numbers, library_shift, renamed}
use Rattle.bl_iface.specs.declared.iface.Iface.{Iface}
use Rattle.bl_iface.proofs.ShiftedPart.{IsFrom, Shifted, Split}

-- what a place in a list of images was
image_at : {A B : Type 0} (f : A → B) (o : Option A) (y : B) → option_map f o ≡ Some y → (x : A) × (o ≡ Some x) × (y ≡ f x)
image_at f None y e = absurd (none-some y e)
image_at f (Some x) y e = (x, refl, sym (same_Some (f x) y e))

module _ (client library : Program) (iface : Iface) (facts : IsProgram client) (other_facts : IsProgram library) where
  abbrev whole : Program
  whole = joined client library iface

  abbrev ours : List Command
  ours = map (renamed (client_numbers iface client library)) (drop 7 client.commands)

  abbrev theirs : List Command
  theirs = map (renamed (library_numbers client library)) (drop 7 library.commands)

  -- ---- commands

  pub client_long : 7 ≤ length client.commands
  client_long = let all = facts.lengths in omega arith

  front_length : length (take 7 client.commands) ≡ 7
  front_length = length-take-le 7 client.commands client_long

  ours_length : length ours ≡ length client.commands - 7
  ours_length = length-map (drop 7 client.commands) _ ∙ length-drop 7 client.commands

  theirs_length : length theirs ≡ length library.commands - 7
  theirs_length = length-map (drop 7 library.commands) _ ∙ length-drop 7 library.commands

  pub whole_length : length (joined client library iface).commands ≡ length client.commands + (length library.commands - 7)
  whole_length =
      let long = client_long in
      let front = front_length in
      let mine = ours_length in
      let its = theirs_length in
      let two = length-append ours theirs in
      length-append (take 7 client.commands) (ours ++ theirs) ∙ omega arith

  pub trap_at : (p : ℕ) → p < 7 → command_at (joined client library iface) p ≡ command_at client p
  trap_at p lt = let long = front_length in get_left (take 7 client.commands) (ours ++ theirs) p (omega arith) ∙ get_take 7 client.commands p lt

  pub client_at : (p : ℕ) → 7 ≤ p → p < length client.commands
      → command_at (joined client library iface) p ≡ option_map (renamed (client_numbers iface client library)) (command_at client p)
  client_at p le lt =
      let long = front_length in let many = ours_length in
      get_right (take 7 client.commands) (ours ++ theirs) p (p - 7) (omega arith)
      ∙ get_left ours theirs (p - 7) (omega arith)
      ∙ slice_get-map (renamed (client_numbers iface client library)) (drop 7 client.commands) (p - 7)
      ∙ ap (option_map (renamed (client_numbers iface client library))) (get_drop 7 client.commands p (p - 7) (omega arith))

  -- behind the client's commands
  pub library_at : (q p : ℕ) → 7 ≤ p → q ≡ p + (length client.commands - 7)
      → command_at (joined client library iface) q ≡ option_map (renamed (library_numbers client library)) (command_at library p)
  library_at q p le is =
      let long = front_length in let many = ours_length in
      get_right (take 7 client.commands) (ours ++ theirs) q (q - 7) (omega arith)
      ∙ get_right ours theirs (q - 7) (p - 7) (omega arith)
      ∙ slice_get-map (renamed (library_numbers client library)) (drop 7 library.commands) (p - 7)
      ∙ ap (option_map (renamed (library_numbers client library))) (get_drop 7 library.commands p (p - 7) (omega arith))

  -- ---- all numbers

  pub client_stands : Shifted client (joined client library iface) (client_shift library) (client_numbers iface client library)
  client_stands =
      let globals = length-append client.globals library.globals in
      let memories = length-append client.memories library.memories in
      let functions = length-append client.functions library.functions in
      record {
        globals = omega arith;
        sizes = omega arith;
        memories = omega arith;
        memory_at = λ m lt. let same : 0 + m ≡ m = omega arith in ap (slice_get (client.memories ++ library.memories)) same ∙ get_left client.memories library.memories m lt;
        functions = omega arith;
        function_at = λ f lt. let same : 0 + f ≡ f = omega arith in ap (slice_get (client.functions ++ library.functions)) same ∙ get_left client.functions library.functions f lt;
        firsts = λ f le.
            let same : 0 + f ≡ f = omega arith in
            let sum = sum_left (λ (d : FunctionDef). d.vars) client.functions library.functions f le in
            ap (first_of whole) same ∙ omega arith;
        entries = λ f le.
            let same : 0 + f ≡ f = omega arith in
            let sum = sum_left (λ (d : FunctionDef). d.length) client.functions library.functions f le in
            ap (entry_of whole) same ∙ omega arith;
        commands = λ p le lt. let same : p + 0 ≡ p = omega arith in ap (command_at whole) same ∙ client_at p le lt;
      }

  pub library_stands : Shifted library (joined client library iface) (library_shift client) (library_numbers client library)
  library_stands =
      let globals = length-append client.globals library.globals in
      let memories = length-append client.memories library.memories in
      let functions = length-append client.functions library.functions in
      let all = facts.lengths in
      record {
        globals = omega arith;
        sizes = omega arith;
        memories = omega arith;
        memory_at = λ m lt. get_right client.memories library.memories (length client.memories + m) m refl;
        functions = omega arith;
        function_at = λ f lt. get_right client.functions library.functions (length client.functions + f) f refl;
        firsts = λ f le.
            let sum = sum_right (λ (d : FunctionDef). d.vars) client.functions library.functions (length client.functions + f) f refl in
            omega arith;
        entries = λ f le.
            let sum = sum_right (λ (d : FunctionDef). d.length) client.functions library.functions (length client.functions + f) f refl in
            omega arith;
        commands = λ p le lt. library_at (p + (length client.commands - 7)) p le refl;
      }

  -- ---- nothing else stands there

  abbrev Mine : ℕ → Type 0
  Mine g = (h : ℕ) × (h < length client.functions) × (g ≡ 0 + h)

  abbrev Its : ℕ → Type 0
  Its g = (h : ℕ) × (h < length library.functions) × (g ≡ length client.functions + h)

  pub function_of : (g : ℕ) → g < length (joined client library iface).functions
      → ((h : ℕ) × (h < length client.functions) × (g ≡ 0 + h)) ⊎ ((h : ℕ) × (h < length library.functions) × (g ≡ length client.functions + h))
  function_of g lt =
      let functions = length-append client.functions library.functions in
      elim (cases_lt g (length client.functions)) as (λ _. Mine g ⊎ Its g) [
        | inl less ↦ inl (g, less, omega arith)
        | inr more ↦ inr (g - length client.functions, omega arith, omega arith)
      ]

  still : (c : Command) (p : ℕ) → p < 7 → command_at client p ≡ Some c → (kind : TrapKind) × (c ≡ Trap kind)
  still c p lt stands = let trap = facts.traps p lt in (trap.0, same_Some c (Trap trap.0) (sym stands ∙ trap.2))

  pub command_of : (from : ℕ) (c : Command) → command_at (joined client library iface) from ≡ Some c
      → ((from < 7) × (kind : TrapKind) × (c ≡ Trap kind))
      ⊎ (IsFrom client (client_shift library) (client_numbers iface client library) from c ⊎ IsFrom library (library_shift client) (library_numbers client library) from c)
  command_of from c stands =
      let long = client_long in
      elim (cases_lt from 7) as (λ _. ((from < 7) × (kind : TrapKind) × (c ≡ Trap kind))
      ⊎ (IsFrom client (client_shift library) (client_numbers iface client library) from c ⊎ IsFrom library (library_shift client) (library_numbers client library) from c)) [
        | inl less ↦ let trap = still c from less (sym (trap_at from less) ∙ stands) in inl (less, trap.0, trap.1)
        | inr behind ↦ inr (elim (cases_lt from (length client.commands)) as (λ _. IsFrom client (client_shift library) (client_numbers iface client library) from c
            ⊎ IsFrom library (library_shift client) (library_numbers client library) from c) [
              | inl less ↦
                  let was = image_at (renamed (client_numbers iface client library)) (command_at client from) c (sym (client_at from behind less) ∙ stands) in
                  inl (record { start = from; behind = behind; moved = omega arith; command = was.0; stands = was.1; is = was.2 })
              | inr more ↦
                  let p : ℕ = from - (length client.commands - 7) in
                  let was = image_at (renamed (library_numbers client library)) (command_at library p) c (sym (library_at from p (omega arith) (omega arith)) ∙ stands) in
                  inr (record { start = p; behind = omega arith; moved = omega arith; command = was.0; stands = was.1; is = was.2 })
            ])
      ]

  pub client_split : Split client library (joined client library iface) (client_shift library) (library_shift client) (client_numbers iface client library) (library_numbers client library)
  client_split = record {
    functions = function_of;
    commands = command_of;
    apart = λ p q le lt le' lt' same. omega arith;
  }

  pub library_split : Split library client (joined client library iface) (library_shift client) (client_shift library) (library_numbers client library) (client_numbers iface client library)
  library_split = record {
    functions = λ g lt. elim (function_of g lt) as (λ _. Its g ⊎ Mine g) [ inl mine ↦ inr mine | inr its ↦ inl its ];
    commands = λ from c stands. elim (command_of from c stands) as (λ _. ((from < 7) × (kind : TrapKind) × (c ≡ Trap kind))
        ⊎ (IsFrom library (library_shift client) (library_numbers client library) from c ⊎ IsFrom client (client_shift library) (client_numbers iface client library) from c)) [
          | inl none ↦ inl none
          | inr some ↦ inr (elim some as (λ _. IsFrom library (library_shift client) (library_numbers client library) from c
              ⊎ IsFrom client (client_shift library) (client_numbers iface client library) from c) [ inl mine ↦ inr mine | inr its ↦ inl its ])
        ];
    apart = λ p q le lt le' lt' same. omega arith;
  }
