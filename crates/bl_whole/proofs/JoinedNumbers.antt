-- What the two programs' commands read, write and call in the joined program is what the joined tree's items name.
use Rattle.std.proofs.Common.{◌≡◌, ◌⊎◌, inl, inr, ℕ, suc, ◌+◌, ◌-◌, ◌<◌, ◌≤◌, ◌++◌, length, Option, Some, None, slice_get, refl, sym, ap, ap₂, ◌∙◌, subst, arith, length-append}
use Rattle.std.specs.Prelude.{option_map, unwrap_or}
use Rattle.std.specs.List.{All}
use Rattle.std.proofs.lemmas.List.{length-map}
use Rattle.bl_wasm.specs.Linked.{IsLinked}
use Rattle.bl_wasm.specs.declared.linked.Tree.{Tree}
use Rattle.bl_program.specs.Layout.{entry_of, first_of, results_of, result as result_in, statics as statics_of}
use Rattle.bl_program.specs.Rules.{IsLocal, IsOwn, IsResult}
use Rattle.bl_program.specs.declared.definitions.ProgramParts.{ProgramParts as Program}
use Rattle.bl_program.proofs.AppendLemmas.{get_left, get_right}
use Rattle.bl_emit.specs.Shapes.{result}
use Rattle.bl_emit.specs.Numbers.{counts_of, function_size, function_variables, shape}
use Rattle.bl_lower.specs.Trees.{function_def, global_def, low_tree, memory_def}
use Rattle.bl_lower.proofs.FunctionPlaces.{room_of}
use Rattle.bl_lower.proofs.TreeLayout.{entry_is, first_is, params_number, results_number, statics_are}
use Rattle.bl_lower.proofs.WellFormed.{facts}
use Rattle.bl_reduce.specs.Runnable.{runnable}
use Rattle.bl_iface.specs.JoinedProgram.{HasSameTypes, client_numbers, client_read, client_shift, goes, library_numbers, library_shift, moved_var, owner}
use Rattle.bl_iface.specs.declared.iface.Iface.{Iface}
use Rattle.bl_iface.proofs.JoinedReads.{owner_is, plain_read, read_cases, result_by}
use Rattle.bl_iface.proofs.ShiftedPart.{moved_above, moved_below, moved_cases, moved_own}
use Rattle.bl_wasm.specs.IndexMaps.{Names}
use Rattle.bl_access.proofs.Moving.{up, up_is}
use Rattle.bl_whole.specs.JoinedTree.{client_names, joined_tree, library_names}
use Rattle.bl_whole.proofs.PartCommands.{Sits}
use Rattle.bl_whole.proofs.JoinedPlaces.{goes_same, our_size, our_total, our_variables, their_size, their_total, their_variables, type_ours, type_theirs}

-- a variable is moved as a global, as a size, or as a function's own
module _ (l st g s v x m : ℕ) (cases : ((x < l) × (m ≡ x + g)) ⊎ (((l ≤ x) × (x < st) × (m ≡ x + s)) ⊎ ((st ≤ x) × (m ≡ x + v)))) where
  moved_first : l ≤ st → x < l → m ≡ x + g
  moved_first within lt = elim cases as (λ _. m ≡ x + g) [
    | inl low ↦ low.1
    | inr rest ↦ elim rest as (λ _. m ≡ x + g) [
      | inl size ↦ let le = size.0 in absurd (omega arith)
      | inr own ↦ let le = own.0 in absurd (omega arith)
    ]
  ]

  moved_second : l ≤ x → x < st → m ≡ x + s
  moved_second le lt = elim cases as (λ _. m ≡ x + s) [
    | inl low ↦ let less = low.0 in absurd (omega arith)
    | inr rest ↦ elim rest as (λ _. m ≡ x + s) [
      | inl size ↦ size.2
      | inr own ↦ let more = own.0 in absurd (omega arith)
    ]
  ]

module _ (client library : Program) where
  our_global : (x : ℕ) → x < length client.globals → moved_var (client_shift library) client x ≡ x + 0
  our_global x lt = moved_first (length client.globals) (statics_of client) 0 (length library.globals) (statics_of library) x (moved_var (client_shift library) client x) (moved_cases (client_shift library) client x) (omega arith) lt

  our_memory : (x : ℕ) → length client.globals ≤ x → x < statics_of client → moved_var (client_shift library) client x ≡ x + length library.globals
  our_memory x le lt = moved_second (length client.globals) (statics_of client) 0 (length library.globals) (statics_of library) x (moved_var (client_shift library) client x) (moved_cases (client_shift library) client x) le lt

  their_global : (x : ℕ) → x < length library.globals → moved_var (library_shift client) library x ≡ x + length client.globals
  their_global x lt = moved_first (length library.globals) (statics_of library) (length client.globals) (statics_of client) (first_of client (length client.functions)) x (moved_var (library_shift client) library x) (moved_cases (library_shift client) library x) (omega arith) lt

  their_memory : (x : ℕ) → length library.globals ≤ x → x < statics_of library → moved_var (library_shift client) library x ≡ x + statics_of client
  their_memory x le lt = moved_second (length library.globals) (statics_of library) (length client.globals) (statics_of client) (first_of client (length client.functions)) x (moved_var (library_shift client) library x) (moved_cases (library_shift client) library x) le lt

module _ (tree : Tree) where
  globals_long : length (low_tree tree).globals ≡ length tree.globals
  globals_long = length-map tree.globals global_def

  memories_long : length (low_tree tree).memories ≡ length tree.memories
  memories_long = length-map tree.memories memory_def

  functions_long : length (low_tree tree).functions ≡ length tree.functions
  functions_long = length-map tree.functions (function_def tree)

  result_is : IsLinked tree → (f i : ℕ) → result_in (low_tree tree) f i ≡ result (shape tree f) i
  result_is linked f i = ap₂ (λ a b. a + b + i) (first_is tree f) (params_number tree (runnable tree linked) f)

module _ (client library : Tree) (iface : Iface) (linked : IsLinked client) (others : IsLinked library) (types : All (HasSameTypes (low_tree client) (low_tree library)) iface.functions) where
  abbrev W : Tree
  W = joined_tree client library iface

  abbrev P : Program
  P = low_tree client

  abbrev Q : Program
  Q = low_tree library

  abbrev ours : Names
  ours = client_names iface client library

  -- ---- where functions begin

  our_first : (f : ℕ) → f ≤ length client.functions → (shape W f).first ≡ up (statics_of Q) (shape client f).first
  our_first f le =
      let a = length-append client.globals library.globals in
      let b = length-append client.memories library.memories in
      let t = our_total client library iface linked others types function_variables (our_variables client library iface linked others types) (their_variables client library iface linked others types) f le in
      let s = statics_are library in
      let u = up_is (statics_of Q) (shape client f).first in
      omega arith

  our_entry : (f : ℕ) → f ≤ length client.functions → (shape W f).entry ≡ up 0 (shape client f).entry
  our_entry f le =
      let t = our_total client library iface linked others types function_size (our_size client library iface linked others types) (their_size client library iface linked others types) f le in
      let u = up_is 0 (shape client f).entry in
      omega arith

  behind_ours : first_of P (length P.functions) ≡ (shape client (length client.functions)).first
  behind_ours = ap (first_of P) (functions_long client) ∙ first_is client (length client.functions)

  their_first : (g : ℕ) → (shape W (length client.functions + g)).first ≡ up (first_of P (length P.functions)) (shape library g).first
  their_first g =
      let a = length-append client.globals library.globals in
      let b = length-append client.memories library.memories in
      let t = their_total client library iface linked others types function_variables (our_variables client library iface linked others types) (their_variables client library iface linked others types) g in
      let s = behind_ours in
      let u = up_is (first_of P (length P.functions)) (shape library g).first in
      omega arith

  commands_long : length P.commands ≡ (shape client (length client.functions)).entry
  commands_long = let all = facts client linked in all.lengths ∙ ap (entry_of P) (functions_long client) ∙ entry_is client (length client.functions)

  their_entry : (g : ℕ) → (shape W (length client.functions + g)).entry ≡ up (length P.commands - 7) (shape library g).entry
  their_entry g =
      let t = their_total client library iface linked others types function_size (our_size client library iface linked others types) (their_size client library iface linked others types) g in
      let s = commands_long in
      let u = up_is (length P.commands - 7) (shape library g).entry in
      omega arith

  -- ---- what the client's commands read

  read_low : (x : ℕ) → x < statics_of P → client_read iface P Q x ≡ moved_var (client_shift Q) P x
  read_low x lt = plain_read P Q iface 0 x (inl lt)

  our_reads : (f x : ℕ) → f < length client.functions → (shape client f).first ≤ x → x < (shape client f).limit
      → (result (shape client f) 0 ≤ x → x < result (shape client f) (shape client f).results → ⊥) → client_read iface P Q x ≡ up (statics_of Q) x
  our_reads f x lt low high apart =
      let a = first_is client f in
      let b = first_is client (suc f) in
      let r0 = result_is client linked f 0 in
      let rn = result_is client linked f (results_of P f) in
      let k = results_number client f in
      let local : IsLocal P f x = ((omega arith, omega arith), λ r. let from = r.0 in let to = r.1 in apart (omega arith) (omega arith)) in
      let s = statics_are client in
      plain_read P Q iface f x (inr local) ∙ moved_own (client_shift Q) P x (omega arith) ∙ sym (up_is (statics_of Q) x)

  our_results : (f i : ℕ) → f < length client.functions → i < (shape client f).results → client_read iface P Q (result (shape client f) i) ≡ result (shape W (ours.function f)) i
  our_results f i lt few =
      elim (read_cases P Q iface x) as (λ _. client_read iface P Q x ≡ result (shape W (ours.function f)) i) [
        | inl none ↦ absurd (none.0 (subst (λ k. IsResult P k x) (sym owner_f) is_result))
        | inr one ↦
            one.1 ∙ ap (λ k. result_by P Q k (goes iface P Q k) x) owner_f ∙ by (goes iface P Q f) refl
            ∙ ap (λ o. result (shape W (unwrap_or (option_map (λ g. length client.functions + g) o) f)) i) (goes_same client library iface linked others types f)
      ]
    where
      x : ℕ
      x = result (shape client f) i

      x_is : x ≡ result_in P f i
      x_is = sym (result_is client linked f i)

      own : IsOwn P f x
      own =
          let a = first_is client f in
          let b = first_is client (suc f) in
          let e = x_is in
          let r = result_is client linked f i in
          let room = room_of client f in
          (omega arith, omega arith)

      owner_f : owner P x ≡ f
      owner_f = owner_is P f x own

      is_result : IsResult P f x
      is_result =
          let e = x_is in
          let k = results_number client f in
          (omega arith, omega arith)

      by : (o : Option ℕ) → goes iface P Q f ≡ o → result_by P Q f o x ≡ result (shape W (unwrap_or (option_map (λ g. length client.functions + g) o) f)) i
      by None e =
          let r = x_is in
          let m = moved_own (client_shift Q) P x (omega arith) in
          let one = our_first f (omega arith) in
          let u = up_is (statics_of Q) (shape client f).first in
          let p : (shape W f).params ≡ (shape client f).params = ap (λ o. (counts_of o).params) (type_ours client library iface linked others types f lt) in
          let q = result_is client linked f i in
          omega arith
      by (Some g) e =
          let r = x_is in
          let y = x - result_in P f 0 in
          let z = result_is library others g y in
          let m = moved_own (library_shift P) Q (result_in Q g y) (omega arith) in
          let one = their_first g in
          let u = up_is (first_of P (length P.functions)) (shape library g).first in
          let p : (shape W (length client.functions + g)).params ≡ (shape library g).params = ap (λ o. (counts_of o).params) (type_theirs client library iface linked others types g) in
          omega arith

  -- ---- the two parts

  pub our_numbers : Sits client (joined_tree client library iface) (client_names iface client library) 0 0 (λ f. f) (client_numbers iface (low_tree client) (low_tree library)) (statics_of (low_tree library)) 0
  our_numbers =
      let a = globals_long client in
      let b = memories_long client in
      let h = globals_long library in
      let both = length-append client.globals library.globals in
      record {
        globals_read = λ x lt. let m = our_global P Q x (omega arith) in read_low x (omega arith) ∙ omega arith;
        globals_write = λ x lt. let m = our_global P Q x (omega arith) in omega arith;
        sizes_read = λ m lt. let k = our_memory P Q (length client.globals + m) (omega arith) (omega arith) in read_low (length client.globals + m) (omega arith) ∙ omega arith;
        sizes_write = λ m lt. let k = our_memory P Q (length client.globals + m) (omega arith) (omega arith) in omega arith;
        memory = λ m. refl;
        memory_at = λ m lt. let same : 0 + m ≡ m = omega arith in ap (slice_get (client.memories ++ library.memories)) same ∙ get_left client.memories library.memories m lt;
        callee = λ f. ap₂ (λ k o. unwrap_or (option_map (λ g. k + g) o) f) (functions_long client) (goes_same client library iface linked others types f);
        first = λ f lt. our_first f (omega arith);
        entry = λ f lt. our_entry f (omega arith);
        writes = λ f lt x low high. let s = statics_are client in moved_own (client_shift Q) P x (omega arith) ∙ sym (up_is (statics_of Q) x);
        reads = our_reads;
        results = our_results;
        goes = λ p le. moved_above (client_shift Q) p le ∙ sym (up_is 0 p);
        traps = λ p lt. moved_below (client_shift Q) p lt;
        next = λ k. refl;
      }

  pub their_numbers : Sits library (joined_tree client library iface) (library_names client) (length client.memories) (length client.tables) (λ f. length client.functions + f) (library_numbers (low_tree client) (low_tree library))
      (first_of (low_tree client) (length (low_tree client).functions)) (length (low_tree client).commands - 7)
  their_numbers =
      let a = globals_long client in
      let b = memories_long client in
      let h = globals_long library in
      let j = memories_long library in
      let both = length-append client.globals library.globals in
      record {
        globals_read = λ x lt. let m = their_global P Q x (omega arith) in omega arith;
        globals_write = λ x lt. let m = their_global P Q x (omega arith) in omega arith;
        sizes_read = λ m lt. let k = their_memory P Q (length library.globals + m) (omega arith) (omega arith) in omega arith;
        sizes_write = λ m lt. let k = their_memory P Q (length library.globals + m) (omega arith) (omega arith) in omega arith;
        memory = λ m. ap (λ k. k + m) (memories_long client);
        memory_at = λ m lt. get_right client.memories library.memories (length client.memories + m) m refl;
        callee = λ f. ap (λ k. k + f) (functions_long client);
        first = λ f lt. their_first f;
        entry = λ f lt. their_entry f;
        writes = λ f lt x low high. let s = statics_are library in moved_own (library_shift P) Q x (omega arith) ∙ sym (up_is (first_of P (length P.functions)) x);
        reads = λ f x lt low high apart. let s = statics_are library in moved_own (library_shift P) Q x (omega arith) ∙ sym (up_is (first_of P (length P.functions)) x);
        results = λ f i lt few.
            let s = statics_are library in
            let m = moved_own (library_shift P) Q (result (shape library f) i) (omega arith) in
            let one = their_first f in
            let u = up_is (first_of P (length P.functions)) (shape library f).first in
            let p : (shape W (length client.functions + f)).params ≡ (shape library f).params = ap (λ o. (counts_of o).params) (type_theirs client library iface linked others types f) in
            omega arith;
        goes = λ p le. moved_above (library_shift P) p le ∙ sym (up_is (length P.commands - 7) p);
        traps = λ p lt. moved_below (library_shift P) p lt;
        next = λ k. omega arith;
      }
