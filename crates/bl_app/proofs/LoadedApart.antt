-- Modules that are loaded behind others: they are read as by themselves, and are the parts that are linked.
use Rattle.std.proofs.Common.{◌≡◌, ◌+◌, List, [], ◌∷◌, ◌++◌, length, refl, ap, ap₂, ◌∙◌, subst, arith, length-append}
use Rattle.std.specs.Prelude.{Ok}
use Rattle.std.specs.List.{All, AllZip}
use Rattle.std.proofs.lemmas.List.{map-append}
use Rattle.bl_base.proofs.Lists.{all_from, all_get}
use Rattle.bl_wasm.specs.declared.linked.Tree.{Tree}
use Rattle.bl_link.specs.Linkable.{AreParts, IsPart, IsSound}
use Rattle.bl_link.specs.Links.{links, part_of}
use Rattle.bl_link.specs.declared.part.Part.{Part as LinkPart}
use Rattle.bl_link.proofs.NumberedLists.{get_left, get_right}
use Rattle.bl_apart.specs.LinkedApart.{AreLinked}
use Rattle.bl_job.specs.Stages.{AllPass, IsLawfulStage, Stage, chain, each}
use Rattle.bl_job.proofs.StageLemmas.{chain_lawful, each_lawful}
use Rattle.bl_build.specs.LoadStages.{AreLoadable, LabelledModule, Links, Part, decoding, labelling, linked_parts, loading, validation}
use Rattle.bl_build.proofs.LoadLemmas.{IsAccepted, all_accepted, decoding_lawful, labelling_lawful, validation_lawful}
use Rattle.bl_build.proofs.LoadTotal.{are_parts, are_sound, turned}

-- ---- a stage on each of two lists

module _ {A B : Type 0} (stage : Stage A B) where
  record Splits (xs ys : List A) (zs : List B) : Type 0 where
    front : List B
    back : List B
    is : zs ≡ front ++ back
    first : AllPass stage xs front
    second : AllPass stage ys back

  split : (xs ys : List A) (zs : List B) → AllPass stage (xs ++ ys) zs → Splits xs ys zs
  split [] ys zs h = record { front = []; back = zs; is = refl; first = tt; second = h }
  split (x ∷ xs) ys [] h = absurd h
  split (x ∷ xs) ys (z ∷ zs) h =
      let rest = split xs ys zs h.1 in
      record { front = z ∷ rest.front; back = rest.back; is = ap (λ l. z ∷ l) rest.is; first = (h.0, rest.first); second = rest.second }

-- ---- modules that are read

abbrev reads : Stage (List Part) (List LabelledModule)
reads = chain (each decoding) (chain (each validation) (each labelling))

reads_lawful : IsLawfulStage reads
reads_lawful =
    chain_lawful (each decoding) (chain (each validation) (each labelling)) (each_lawful decoding decoding_lawful)
    (chain_lawful (each validation) (each labelling) (each_lawful validation validation_lawful) (each_lawful labelling labelling_lawful))

accepted : (parts : List Part) (all : List LabelledModule) → reads.Passes parts all → AllZip IsAccepted parts all
accepted parts all p = all_accepted parts p.0 p.2.0 all p.1 p.2.1 p.2.2

record ReadApart (xs ys : List Part) (all : List LabelledModule) : Type 0 where
  front : List LabelledModule
  back : List LabelledModule
  is : all ≡ front ++ back
  first : reads.Passes xs front
  second : reads.Passes ys back

read_apart : (xs ys : List Part) (all : List LabelledModule) → reads.Passes (xs ++ ys) all → ReadApart xs ys all
read_apart xs ys all p =
    let d = split decoding xs ys p.0 p.1 in
    let v = split validation d.front d.back p.2.0 (subst (λ l. AllPass validation l p.2.0) d.is p.2.1) in
    let l = split labelling v.front v.back all (subst (λ m. AllPass labelling m all) v.is p.2.2) in
    record { front = l.front; back = l.back; is = l.is; first = (d.front, d.first, (v.front, v.first, l.first)); second = (d.back, d.second, (v.back, v.second, l.second)) }

record IsLoaded (parts : List Part) (tree : Tree) : Type 0 where
  all : List LabelledModule
  read : reads.Passes parts all
  links : Links all tree

is_loaded : (parts : List Part) (tree : Tree) → loading.Passes parts tree → IsLoaded parts tree
is_loaded parts tree p = record { all = p.2.2.0; read = (p.0, p.1, (p.2.0, p.2.1, p.2.2.1)); links = p.2.2.2 }

-- ---- parts of which some stand behind others

all_left : {A : Type 0} (P : A → Type 0) (xs ys : List A) → All P (xs ++ ys) → All P xs
all_left P xs ys h = all_from P xs (λ i x e. all_get P (xs ++ ys) i x h (get_left xs ys i x e))

all_right : {A : Type 0} (P : A → Type 0) (xs ys : List A) → All P (xs ++ ys) → All P ys
all_right P xs ys h = all_from P ys (λ i x e. all_get P (xs ++ ys) (length xs + i) x h (get_right xs ys i ∙ e))

parts_left : (xs ys : List LinkPart) → AreParts (xs ++ ys) → AreParts xs
parts_left xs ys h = record {
  each = all_left IsPart xs ys h.each;
  few = let few = h.few in omega (arith, few, length-append xs ys);
  distinct = λ i j a b e f. h.distinct i j a b (get_left xs ys i a e) (get_left xs ys j b f);
}

-- ---- a stub, its users and the library that it stands for

-- the users are read as by themselves, and all are linked in both ways
pub record AreRead (users : List Part) (stub library client whole : Tree) : Type 0 where
  pub stubs : List LinkPart
  pub libraries : List LinkPart
  pub used : List LabelledModule
  pub accepted : AllZip IsAccepted users used
  pub linked : AreLinked stubs libraries (linked_parts used) stub library client whole

module _ (stubs users libraries : List Part) (stub library client whole : Tree) (ours : AreLoadable (stubs ++ users)) (theirs : AreLoadable (libraries ++ users))
    (s : loading.Passes stubs stub) (c : loading.Passes (stubs ++ users) client) (l : loading.Passes libraries library) (w : loading.Passes (libraries ++ users) whole) where
  one : IsLoaded stubs stub
  one = is_loaded stubs stub s

  other : IsLoaded libraries library
  other = is_loaded libraries library l

  here : IsLoaded (stubs ++ users) client
  here = is_loaded (stubs ++ users) client c

  there : IsLoaded (libraries ++ users) whole
  there = is_loaded (libraries ++ users) whole w

  here_apart : ReadApart stubs users here.all
  here_apart = read_apart stubs users here.all here.read

  there_apart : ReadApart libraries users there.all
  there_apart = read_apart libraries users there.all there.read

  abbrev used : List LabelledModule
  used = here_apart.back

  abbrev first : List LinkPart
  first = linked_parts one.all

  abbrev second : List LinkPart
  second = linked_parts other.all

  behind : (xs ys : List LabelledModule) → linked_parts (xs ++ ys) ≡ linked_parts xs ++ linked_parts ys
  behind xs ys = map-append (λ (each : LabelledModule). part_of each.name each.tree each.labels) xs ys

  here_is : linked_parts here.all ≡ first ++ linked_parts used
  here_is =
      let same = reads_lawful.one_result stubs here_apart.front one.all here_apart.first one.read in
      ap (λ (all : List LabelledModule). linked_parts all) (here_apart.is ∙ ap (λ (xs : List LabelledModule). xs ++ used) same) ∙ behind one.all used

  there_is : linked_parts there.all ≡ second ++ linked_parts used
  there_is =
      let same = reads_lawful.one_result libraries there_apart.front other.all there_apart.first other.read in
      let users_same = reads_lawful.one_result users there_apart.back used there_apart.second here_apart.second in
      ap (λ (all : List LabelledModule). linked_parts all) (there_apart.is ∙ ap₂ (λ (xs ys : List LabelledModule). xs ++ ys) same users_same) ∙ behind other.all used

  here_parts : AreParts (first ++ linked_parts used)
  here_parts = subst AreParts here_is (are_parts here.all (stubs ++ users) (turned (stubs ++ users) here.all (accepted (stubs ++ users) here.all here.read)) ours)

  there_parts : AreParts (second ++ linked_parts used)
  there_parts = subst AreParts there_is (are_parts there.all (libraries ++ users) (turned (libraries ++ users) there.all (accepted (libraries ++ users) there.all there.read)) theirs)

  here_sound : All IsSound (first ++ linked_parts used)
  here_sound =
      subst (λ (parts : List LinkPart). All IsSound parts) here_is
      (are_sound here.all (stubs ++ users) (turned (stubs ++ users) here.all (accepted (stubs ++ users) here.all here.read)) ours)

  there_sound : All IsSound (second ++ linked_parts used)
  there_sound =
      subst (λ (parts : List LinkPart). All IsSound parts) there_is
      (are_sound there.all (libraries ++ users) (turned (libraries ++ users) there.all (accepted (libraries ++ users) there.all there.read)) theirs)

  linked_apart : AreLinked first second (linked_parts used) stub library client whole
  linked_apart = record {
    stub_parts = parts_left first (linked_parts used) here_parts;
    library_parts = parts_left second (linked_parts used) there_parts;
    client_parts = here_parts;
    whole_parts = there_parts;
    stub_sound = all_left IsSound first (linked_parts used) here_sound;
    library_sound = all_left IsSound second (linked_parts used) there_sound;
    users_sound = all_right IsSound first (linked_parts used) here_sound;
    stub_is = one.links.is_tree;
    library_is = other.links.is_tree;
    client_is = subst (λ (parts : List LinkPart). links parts ≡ Ok client) here_is here.links.is_tree;
    whole_is = subst (λ (parts : List LinkPart). links parts ≡ Ok whole) there_is there.links.is_tree;
  }

  pub are_read : AreRead users stub library client whole
  are_read = record { stubs = first; libraries = second; used = used; accepted = accepted users used here_apart.second; linked = linked_apart }
