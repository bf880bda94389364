-- A joined image ends as the linked modules do.
use Rattle.std.proofs.Common.{◌≡◌, ℕ, zero, suc, List, [], ◌∷◌, ◌++◌, Some, slice_get, inl, inr, refl, sym, ap, ◌∙◌, subst}
use Rattle.std.specs.List.{All, AllZip, Contains}
use Rattle.std.proofs.lemmas.List.Elements.{All-cons, All-head, All-nil, All-tail, All-weaker, Contains-get_or, at_from_Contains}
use Rattle.std.proofs.lemmas.Option.{get_or_from_slice_get, none-some, same_Some, slice_get-get_or, slice_get_within}
use Rattle.bl_base.proofs.Lists.{get_mapped, zip_get}
use Rattle.bl_base.specs.Runs.{Outcome}
use Rattle.bl_base.specs.declared.start.Start.{Start}
use Rattle.bl_base.specs.declared.names.Role.TheVariants.{Client, Library}
use Rattle.bl_text.specs.Names.{module_name}
use Rattle.bl_wasm.specs.Exports.{value_named}
use Rattle.bl_wasm.specs.Linked.{IsLinked}
use Rattle.bl_wasm.specs.Modules.{Spells}
use Rattle.bl_wasm.specs.declared.linked.Tree.{Tree}
use Rattle.bl_wasm.specs.declared.module.Import.{Import}
use Rattle.bl_wasm.specs.declared.module.Module.{Module}
use Rattle.bl_wasm.proofs.NamedLemmas.{stands_at, value_found}
use Rattle.bl_link.specs.ExportNames.{qualified}
use Rattle.bl_link.specs.Links.{part_of}
use Rattle.bl_link.specs.declared.part.Part.{Part as LinkPart}
use Rattle.bl_reduce.specs.Runnable.{IsRunnable, runnable}
use Rattle.bl_program.specs.Outcomes.{plain}
use Rattle.bl_program.specs.declared.definitions.ProgramParts.{ProgramParts as Program}
use Rattle.bl_counts.specs.RunCounts.{bare}
use Rattle.bl_format.specs.Image.{Image}
use Rattle.bl_lower.specs.Trees.{low_tree, step_bound}
use Rattle.bl_iface.specs.declared.iface.FnIface.{FnIface}
use Rattle.bl_iface.specs.declared.iface.Iface.{Iface}
use Rattle.bl_rename.specs.Renamings.{Numbers, Renames, start_by}
use Rattle.bl_rename.proofs.RenamedRuns.{outcome_here, outcome_there}
use Rattle.bl_whole.specs.JoinedTree.{joined_tree}
use Rattle.bl_whole.proofs.BareJoined.{runs_bare, runs_marked}
use Rattle.bl_apart.specs.LinkedApart.{AreLinked, AreUsers, HasOrigin, IsExported, IsGiven, IsOwn}
use Rattle.bl_apart.proofs.JoinedExports.{export_kept, has_origin}
use Rattle.bl_apart.proofs.JoinedLinks.{joins_as_linked}
use Rattle.bl_build.specs.EntryStages.{function_named}
use Rattle.bl_build.specs.InterfaceStages.{IsFileOf}
use Rattle.bl_build.specs.LoadStages.{AreLoadable, LabelledModule, Part, linked_parts, loading}
use Rattle.bl_build.specs.ProgramMeaning.{SameOutcomes}
use Rattle.bl_build.proofs.BuildLemmas.{same_outcomes}
use Rattle.bl_build.proofs.LoadLemmas.{IsAccepted, loading_lawful}
use Rattle.bl_app.specs.JoinedModules.{AreKept, AreLoaded, Calls, EndAlike, EndsAsLinked, File, IsWanted, KeepTo, Trees, clients, contents_of, join_call, modules_in, numbers_in, part_call, words_of}
use Rattle.bl_app.proofs.ImageLemmas.{same_exports}
use Rattle.bl_app.proofs.JoinedParts.{IsWhole, is_join, is_part, parts_joined}
use Rattle.bl_app.proofs.JoinedUsers.{AreBoth, redirected}
use Rattle.bl_app.proofs.LoadedApart.{AreRead, are_read}

-- ---- files

abbrev module_of : File → Part
module_of file = record { name = module_name file.word; bytes = file.bytes }

modules_append : (xs ys : List File) → modules_in (xs ++ ys) ≡ modules_in xs ++ modules_in ys
modules_append [] ys = refl
modules_append (x ∷ xs) ys = ap (λ (l : List Part). module_of x ∷ l) (modules_append xs ys)

module_at : (files : List File) (i : ℕ) (file : File) → slice_get files i ≡ Some file → slice_get (modules_in files) i ≡ Some (module_of file)
module_at [] i file e = absurd (none-some file e)
module_at (x ∷ files) zero file e = ap (λ (f : File). Some (module_of f)) (same_Some x file e)
module_at (x ∷ files) (suc i) file e = module_at files i file e

-- the parts of users' files
module _ (users : List File) (used : List LabelledModule) (accepted : AllZip IsAccepted (modules_in users) used) where
  user_of : (name : List ℕ) → (user : File) × Contains users user × (module_name user.word ≡ name) → (user : LinkPart) × Contains (linked_parts used) user × (user.name ≡ name)
  user_of name h =
      let p = at_from_Contains users h.0 h.1 in
      let stands : slice_get users p.0 ≡ Some h.0 = slice_get-get_or users p.0 h.0 p.1 ∙ ap (λ (f : File). Some f) (p.2 h.0) in
      let found = zip_get IsAccepted (modules_in users) used p.0 (module_of h.0) accepted (module_at users p.0 h.0 stands) in
      let part : LinkPart = part_of found.0.name found.0.tree found.0.labels in
      let there : slice_get (linked_parts used) p.0 ≡ Some part = get_mapped (λ (one : LabelledModule). part_of one.name one.tree one.labels) used p.0 found.0 found.1 in
      let contains : Contains (linked_parts used) part =
      subst (λ (q : LinkPart). Contains (linked_parts used) q) (get_or_from_slice_get (linked_parts used) p.0 part part there)
      (Contains-get_or (linked_parts used) p.0 part (slice_get_within (linked_parts used) p.0 part there)) in
      (part, contains, found.2.0 ∙ h.2)

-- what each import of the modules in files is, each import of their parts is
imports_are : (P : Import → Type 0) (files : List File) (all : List LabelledModule) → AllZip IsAccepted (modules_in files) all
    → All (λ (file : File). (wasm : Module) → Spells file.bytes wasm → All P wasm.imports) files → All (λ (user : LinkPart). All P user.wasm.imports) (linked_parts all)
imports_are P [] [] h given = All-nil (λ (user : LinkPart). All P user.wasm.imports)
imports_are P [] (one ∷ all) h given = absurd h
imports_are P (file ∷ files) [] h given = absurd h
imports_are P (file ∷ files) (one ∷ all) h given =
    All-cons (λ (user : LinkPart). All P user.wasm.imports) (part_of one.name one.tree one.labels) (linked_parts all)
    (All-head (λ (file : File). (wasm : Module) → Spells file.bytes wasm → All P wasm.imports) file files given one.tree h.0.1.spelled)
    (imports_are P files all h.1 (All-tail (λ (file : File). (wasm : Module) → Spells file.bytes wasm → All P wasm.imports) file files given))

-- ---- programs that are equal but for marks and weights

outcomes_alike : (tree : Tree) (one other : Program) → bare one ≡ bare other → SameOutcomes tree other → SameOutcomes tree one
outcomes_alike tree one other same h = record {
  follows = λ function start o n r.
      let f = h.follows function start o n r in
      (f.0, runs_marked one function start f.0 o (subst (λ (p : Program). plain p function start f.0 o) (sym same) (runs_bare other function start f.0 o f.1)), f.2, f.3);
  comes_from = λ function start o m r. h.comes_from function start o m (over function start o m r);
  source_unique = h.source_unique;
  plain_unique = λ function start o p m k r q. h.plain_unique function start o p m k (over function start o m r) (over function start p k q);
}
  where
    over : (function : ℕ) (start : Start) (o : Outcome) (m : ℕ) → plain one function start m o → plain other function start m o
    over function start o m r = runs_marked other function start m o (subst (λ (p : Program). plain p function start m o) same (runs_bare one function start m o r))

-- ---- the linked modules and the joined program

module _ (iface : Iface) (stubs libraries users : List LinkPart) (trees : Trees) (are : AreLinked stubs libraries users trees.stub trees.library trees.client trees.whole)
    (joins : AreUsers iface trees.stub trees.client trees.library users) (linked : IsLinked trees.whole) (program : Program) (can_run : IsRunnable (joined_tree trees.client trees.library iface))
    (same : bare program ≡ bare (low_tree (joined_tree trees.client trees.library iface))) where
  abbrev joined : Tree
  joined = joined_tree trees.client trees.library iface

  abbrev numbers : Numbers
  numbers = numbers_in trees

  renames : Renames numbers trees.whole joined
  renames = joins_as_linked iface stubs libraries users trees.stub trees.library trees.client trees.whole are joins

  outcomes : SameOutcomes joined program
  outcomes = outcomes_alike joined program (low_tree joined) same (same_outcomes joined can_run)

  end_alike : (function : ℕ) → EndAlike trees.whole numbers (step_bound joined) program function
  end_alike function = record {
    follows = λ start n o h.
        let there = outcome_there numbers trees.whole joined renames function start n o h in
        let run = outcomes.follows (numbers.names.function function) (start_by numbers start) there.0 n there.1 in
        (run.0, there.0, run.1, there.2, run.2, run.3);
    comes_from = λ start m p is h.
        let run = outcomes.comes_from (numbers.names.function function) (start_by numbers start) p m h in
        let here = outcome_here numbers trees.whole joined renames (runnable trees.whole linked) function start is run.0 p run.1 in
        (run.0, here.0, here.1, here.2, run.2, run.3);
  }

  ends_as_linked : All (λ (one : FnIface). AreBoth trees.client trees.library one.name) iface.functions → (name : List ℕ) (function : ℕ) → value_named name trees.whole.exports ≡ Some function
      → IsOwn trees.stub trees.client name → EndsAsLinked trees iface program name function
  ends_as_linked both name function stands own =
      let exported = All-weaker (λ (one : FnIface). AreBoth trees.client trees.library one.name) (IsExported trees.library)
      (λ one known. (known.callee, stands_at trees.library.exports one.name known.callee known.there)) iface.functions both in
      let kept = export_kept iface stubs libraries users trees.stub trees.library trees.client trees.whole are joins name function exported own (stands_at trees.whole.exports name function stands) in
      record {
        exported = ap (λ (p : Program). function_named name p.exports) same ∙ same_exports name joined.exports ∙ value_found joined.exports kept.0 (name, numbers.names.function function) can_run.distinct kept.1;
        alike = end_alike function;
      }

  exports_come : (name : List ℕ) (number : ℕ) → function_named name program.exports ≡ Some number → HasOrigin iface trees.stub trees.whole name number
  exports_come name number h =
      has_origin iface stubs libraries users trees.stub trees.library trees.client trees.whole are joins name number
      (stands_at joined.exports name number (sym (ap (λ (p : Program). function_named name p.exports) same ∙ same_exports name joined.exports) ∙ h))

-- ---- the calls

module _ (calls : Calls) (iface : Iface) (trees : Trees) (loaded : AreLoaded calls trees) (keep : KeepTo calls iface trees) where
  abbrev ours : List Part
  ours = modules_in calls.stubs

  abbrev mine : List Part
  mine = modules_in calls.users

  abbrev theirs : List Part
  theirs = modules_in calls.libraries

  here : loading.Passes (ours ++ mine) trees.client
  here = subst (λ (parts : List Part). loading.Passes parts trees.client) (modules_append calls.stubs calls.users) loaded.client

  there : loading.Passes (theirs ++ mine) trees.whole
  there = subst (λ (parts : List Part). loading.Passes parts trees.whole) (modules_append calls.libraries calls.users) loaded.whole

  few : AreLoadable (ours ++ mine)
  few = subst AreLoadable (modules_append calls.stubs calls.users) loaded.loadable

  others_few : AreLoadable (theirs ++ mine)
  others_few = subst AreLoadable (modules_append calls.libraries calls.users) loaded.loadable_whole

  read : AreRead mine trees.stub trees.library trees.client trees.whole
  read = are_read ours mine theirs trees.stub trees.library trees.client trees.whole few others_few loaded.stub here loaded.library there

  module _ (program : Program) (whole : IsWhole trees.client trees.library iface program) where
    given : (wanted : Import) → IsWanted calls.users iface wanted → IsGiven iface trees.stub trees.client trees.library (linked_parts read.used) wanted
    given wanted (inl user) = inl (user_of calls.users read.used read.accepted wanted.from user)
    given wanted (inr named) =
        inr (redirected iface read.stubs read.libraries (linked_parts read.used) trees.stub trees.library trees.client trees.whole read.linked whole.both keep.names (qualified wanted.from wanted.name) named)

    joins : AreUsers iface trees.stub trees.client trees.library (linked_parts read.used)
    joins =
        imports_are (IsGiven iface trees.stub trees.client trees.library (linked_parts read.used)) calls.users read.used read.accepted
        (All-weaker (λ (file : File). (wasm : Module) → Spells file.bytes wasm → All (IsWanted calls.users iface) wasm.imports)
        (λ (file : File). (wasm : Module) → Spells file.bytes wasm → All (IsGiven iface trees.stub trees.client trees.library (linked_parts read.used)) wasm.imports)
        (λ file h wasm spelled. All-weaker (IsWanted calls.users iface) (IsGiven iface trees.stub trees.client trees.library (linked_parts read.used)) given wasm.imports (h wasm spelled)) calls.users keep.imports)

    pub ends : (name : List ℕ) (function : ℕ) → value_named name trees.whole.exports ≡ Some function → IsOwn trees.stub trees.client name → EndsAsLinked trees iface program name function
    ends name function stands own =
        ends_as_linked iface read.stubs read.libraries (linked_parts read.used) trees read.linked joins there.2.2.2.can_run program whole.can_run whole.same whole.both name function stands own

    pub origin : (name : List ℕ) (number : ℕ) → function_named name program.exports ≡ Some number → HasOrigin iface trees.stub trees.whole name number
    origin = exports_come iface read.stubs read.libraries (linked_parts read.used) trees read.linked joins there.2.2.2.can_run program whole.can_run whole.same

joined_is : (calls : Calls) (iface : Iface) (trees : Trees) (own program : Program) → AreKept calls → IsFileOf calls.iface.bytes iface → AreLoaded calls trees → Image own calls.joined.bytes
    → bare program ≡ bare own → IsWhole trees.client trees.library iface program
joined_is calls iface trees own program kept file loaded image same =
    let c = is_part (part_call Client calls.client_iface calls.client (clients calls)) calls.client_iface.bytes (contents_of (clients calls)) calls.client kept.client in
    let l = is_part (part_call Library calls.library_iface calls.library calls.libraries) calls.library_iface.bytes (contents_of calls.libraries) calls.library kept.library in
    let j = is_join (join_call calls) calls.iface.bytes calls.client.bytes calls.library.bytes calls.joined kept.joined in
    let is = parts_joined (words_of (clients calls)) (contents_of (clients calls)) (words_of calls.libraries) (contents_of calls.libraries) calls.client.bytes calls.library.bytes calls.iface.bytes calls.joined.bytes
    iface own c l j file image in
    let client_is : c.compiled.tree ≡ trees.client = loading_lawful.one_result (modules_in (clients calls)) c.compiled.tree trees.client c.compiled.loaded loaded.client in
    let library_is : l.compiled.tree ≡ trees.library = loading_lawful.one_result (modules_in calls.libraries) l.compiled.tree trees.library l.compiled.loaded loaded.library in
    let whole : IsWhole trees.client trees.library iface own =
    subst (λ (t : Tree). IsWhole t trees.library iface own) client_is (subst (λ (t : Tree). IsWhole c.compiled.tree t iface own) library_is is) in
    record { can_run = whole.can_run; same = same ∙ whole.same; both = whole.both }

pub joined_ends : (calls : Calls) (iface : Iface) (trees : Trees) (own program : Program) → AreKept calls → IsFileOf calls.iface.bytes iface → AreLoaded calls trees → KeepTo calls iface trees
    → Image own calls.joined.bytes → bare program ≡ bare own
    → (name : List ℕ) (function : ℕ) → value_named name trees.whole.exports ≡ Some function → IsOwn trees.stub trees.client name → EndsAsLinked trees iface program name function
joined_ends calls iface trees own program kept file loaded keep image same =
    ends calls iface trees loaded keep program (joined_is calls iface trees own program kept file loaded image same)

pub joined_origin : (calls : Calls) (iface : Iface) (trees : Trees) (own program : Program) → AreKept calls → IsFileOf calls.iface.bytes iface → AreLoaded calls trees → KeepTo calls iface trees
    → Image own calls.joined.bytes → bare program ≡ bare own
    → (name : List ℕ) (number : ℕ) → function_named name program.exports ≡ Some number → HasOrigin iface trees.stub trees.whole name number
joined_origin calls iface trees own program kept file loaded keep image same =
    origin calls iface trees loaded keep program (joined_is calls iface trees own program kept file loaded image same)
