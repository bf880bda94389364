-- Users that are linked over a stub, and over the library.
use Rattle.std.proofs.Common.{◌∙◌, sym, ap, ℕ, ◌+◌, ◌<◌, List, ◌++◌, length, inl, inr}
use Rattle.std.specs.Prelude.{option_map, unwrap_or}
use Rattle.std.specs.List.{All}
use Rattle.std.proofs.lemmas.List.Elements.{All-append, All-weaker}
use Rattle.bl_base.proofs.Lists.{all_get}
use Rattle.bl_wasm.specs.declared.module.Import.{Import}
use Rattle.bl_wasm.specs.declared.linked.Tree.{Tree}
use Rattle.bl_wasm.proofs.NamedLemmas.{stands_at}
use Rattle.bl_reduce.specs.Runnable.{IsRunnable, runnable}
use Rattle.bl_link.specs.ExportNames.{qualified}
use Rattle.bl_link.specs.Linkable.{IsSound}
use Rattle.bl_link.specs.declared.part.Part.{Part}
use Rattle.bl_link.proofs.LinkedTrees.{linked}
use Rattle.bl_iface.specs.declared.iface.Iface.{Iface}
use Rattle.bl_rename.specs.Renamings.{Renames}
use Rattle.bl_whole.specs.JoinedTree.{joined_tree}
use Rattle.bl_apart.specs.BesideStores.{Agree, AreGiven, IsOffered}
use Rattle.bl_apart.specs.LinkedApart.{AreLinked, AreUsers, IsGiven, setting, whole_numbers}
use Rattle.bl_apart.proofs.BesideLinks.{users_beside}
use Rattle.bl_apart.proofs.BesideOffers.{all_given}
use Rattle.bl_apart.proofs.UserExports.{library_linked, stays}
use Rattle.bl_apart.proofs.WholeNumbers.{agrees, low, renames}

module _ (iface : Iface) (stubs libraries users : List Part) (stub library client whole : Tree) (are : AreLinked stubs libraries users stub library client whole)
    (joins : AreUsers iface stub client library users) where
  pub whole_runs : IsRunnable whole
  whole_runs = runnable whole (linked (libraries ++ users) whole are.whole_parts (All-append IsSound libraries users are.library_sound are.users_sound) are.whole_is)

  offered : (wanted : Import) → IsGiven iface stub client library users wanted → IsOffered (setting iface stub client library) users wanted
  offered wanted (inl h) = inl h
  offered wanted (inr h) =
      let name : List ℕ = qualified wanted.from wanted.name in
      let there = stands_at library.exports name h.callee h.exported in
      let linked = library_linked stubs libraries users stub library client whole are in
      let within = all_get (λ (pair : List ℕ × ℕ). pair.1 < length library.functions) library.exports there.0 (name, h.callee) linked.exports there.1 in
      inr (
        h.function,
        h.callee,
        stands_at stub.exports name h.function h.stands,
        there,
        ap (λ o. unwrap_or (option_map (λ g. length client.functions + g) o) h.function) h.goes
            ∙ sym (low (length library.functions) (length client.functions) (length stub.functions) h.callee within),
      )

  pub agree : Agree (setting iface stub client library)
  agree = agrees iface stub client library (λ function behind. stays stubs libraries users stub library client whole are function behind iface.functions)

  pub given : AreGiven (setting iface stub client library) stubs libraries users
  given =
      all_given (setting iface stub client library) stubs libraries users are.client_parts are.whole_parts are.stub_sound are.library_sound are.stub_parts are.library_parts are.stub_is are.library_is
      (All-weaker (λ (user : Part). All (IsGiven iface stub client library users) user.wasm.imports) (λ (user : Part). All (IsOffered (setting iface stub client library) users) user.wasm.imports)
      (λ user. All-weaker (IsGiven iface stub client library users) (IsOffered (setting iface stub client library) users) offered user.wasm.imports) users joins)

  pub joins_as_linked : Renames (whole_numbers stub client library) whole (joined_tree client library iface)
  joins_as_linked =
      renames iface stub client library whole (library_linked stubs libraries users stub library client whole are)
      (users_beside (setting iface stub client library) agree stubs libraries users client whole are.users_sound given are.client_is are.whole_is)
