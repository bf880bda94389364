-- A program's verdict on constant time is its verdict with other protects too.
use Rattle.std.proofs.Common.{◌≡◌, inl, inr, ℕ, Bool, List, [], ◌∷◌, refl, sym, ◌∙◌}
use Rattle.std.specs.Prelude.{◌↔◌, map}
use Rattle.bl_program.specs.Sites.{Writes, Reads, SinkReads}
use Rattle.bl_program.specs.declared.command.Command.{Command}
use Rattle.bl_program.specs.declared.command.Command.TheVariants.{Load, Store}
use Rattle.bl_program.specs.declared.definitions.Demand.{Demand}
use Rattle.bl_program.specs.declared.definitions.Demand.TheVariants as demand
use Rattle.bl_program.specs.declared.definitions.ProgramParts.{ProgramParts as Program}
use Rattle.bl_graph.specs.Labels.{KeepsLabelRules, Secret, declared, loaded, moved}
use Rattle.bl_graph.specs.SecretChains.{Ends, IsChainFrom, IsSecretChain, LeadsLoaded, LeadsToEnd, given, stored, sunk}
use Rattle.bl_graph.specs.Secrets.{Declares, Demands, GivesPublic, LoadsSecret, Stores, TakesSecret, demanded_by}
use Rattle.bl_graph.specs.declared.secret.Origin.{Origin}
use Rattle.bl_graph.specs.declared.secret.Origin.TheVariants.{Parameter, Global, Memory}
use Rattle.bl_graph.specs.declared.secret.SecretChain.{SecretChain}
use Rattle.bl_ct.specs.Verdicts.{Judges, labelling_of}
use Rattle.bl_ct.specs.declared.verdict.CtVerdict.{CtVerdict}
use Rattle.bl_ct.specs.declared.verdict.CtVerdict.TheVariants.{Yes, No}
use Rattle.bl_cut.specs.Marks.{marked, protected}
use Rattle.bl_cut.proofs.MarkedGraphs.{reads_same, sinks_same, stands, writes_same}

-- ---- two programs

-- all that is said of the one program, by which labels are judged, holds of the other one
record Holds (one other : Program) : Type 0 where
  declares : (x : ℕ) (origin : Origin) → Declares one x origin → Declares other x origin
  loads : (s memory : ℕ) → LoadsSecret one s memory → LoadsSecret other s memory
  stores : (position x : ℕ) → Stores one position x → Stores other position x
  demands : (x : ℕ) → Demands one x → Demands other x
  writes : (s x : ℕ) → Writes one s x → Writes other s x
  reads : (s x : ℕ) → Reads one s x → Reads other s x
  sinks : (position x : ℕ) → SinkReads one position x → SinkReads other position x

module _ (one other : Program) (holds : Holds one other) where
  secret_in : (x : ℕ) → Secret one x → Secret other x
  secret_in _ (declared x origin h) = declared x origin (holds.declares x origin h)
  secret_in _ (loaded s memory x h w) = loaded s memory x (holds.loads s memory h) (holds.writes s x w)
  secret_in _ (moved s x y r w h) = moved s x y (holds.reads s x r) (holds.writes s y w) (secret_in x h)

  rules_in : (labelling : ℕ → Bool) → KeepsLabelRules other labelling → KeepsLabelRules one labelling
  rules_in labelling h = record {
    assigns = record {
      declared = λ x origin d. h.assigns.declared x origin (holds.declares x origin d);
      loads = λ s memory x l w. h.assigns.loads s memory x (holds.loads s memory l) (holds.writes s x w);
      moves = λ s x y r w. h.assigns.moves s x y (holds.reads s x r) (holds.writes s y w);
    };
    sinks = λ position x s. h.sinks position x (holds.sinks position x s);
    stores = λ position x s. h.stores position x (holds.stores position x s);
    demanded = λ x d. h.demanded x (holds.demands x d);
  }

  ends_in : (x end : ℕ) → Ends one x end → Ends other x end
  ends_in x end (sunk h) = sunk (holds.sinks end x h)
  ends_in x end (stored h) = stored (holds.stores end x h)
  ends_in x end (given y r w d) = given y (holds.reads end x r) (holds.writes end y w) (holds.demands y d)

  leads_in : (x : ℕ) (sites : List ℕ) (end : ℕ) → LeadsToEnd one x sites end → LeadsToEnd other x sites end
  leads_in x [] end h = ends_in x end h
  leads_in x (s ∷ rest) end h = (holds.reads s x h.0, (h.1.0, holds.writes s h.1.0 h.1.1, leads_in h.1.0 rest end h.1.2))

  loaded_in : (load x : ℕ) (rest : List ℕ) (end : ℕ) → LeadsLoaded one load x rest end → LeadsLoaded other load x rest end
  loaded_in load x rest end (inl h) = inl (leads_in x rest end h)
  loaded_in load x rest end (inr h) = inr (h.0, h.1, holds.demands x h.2)

  from_in : (origin : Origin) (through : List ℕ) (end : ℕ) → IsChainFrom one origin through end → IsChainFrom other origin through end
  from_in (Parameter function index) through end h = (h.0, holds.declares h.0 (Parameter function index) h.1, leads_in h.0 through end h.2)
  from_in (Global number) through end h = (h.0, holds.declares h.0 (Global number) h.1, leads_in h.0 through end h.2)
  from_in (Memory number) [] end h = h
  from_in (Memory number) (s ∷ rest) end h = (holds.loads s number h.0, (h.1.0, holds.writes s h.1.0 h.1.1, loaded_in s h.1.0 rest end h.1.2))

  chain_in : (chain : SecretChain) → IsSecretChain one chain → IsSecretChain other chain
  chain_in chain h = from_in chain.origin (map (λ s. s.0) chain.through) chain.end.0 h

-- ---- a program and itself with other protects

module _ (set : ℕ → Bool) (program : Program) where
  abbrev after : Program
  after = protected set program

  declares_on : (x : ℕ) (origin : Origin) → Declares program x origin → Declares after x origin
  declares_on x (Parameter function index) h = h
  declares_on x (Global number) h = h
  declares_on x (Memory number) h = h

  declares_back : (x : ℕ) (origin : Origin) → Declares after x origin → Declares program x origin
  declares_back x (Parameter function index) h = h
  declares_back x (Global number) h = h
  declares_back x (Memory number) h = h

  takes_on : (b : Bool) (command : Command) (number : ℕ) → TakesSecret program command number → TakesSecret after (marked b command) number
  takes_on b (Load mark kind memory to offset address) number h = h
  takes_on b _ number h = h

  takes_back : (b : Bool) (command : Command) (number : ℕ) → TakesSecret after (marked b command) number → TakesSecret program command number
  takes_back b (Load mark kind memory to offset address) number h = h
  takes_back b _ number h = h

  gives_on : (b : Bool) (command : Command) (x : ℕ) → GivesPublic program command x → GivesPublic after (marked b command) x
  gives_on b (Store kind memory offset address value) x h = h
  gives_on b _ x h = h

  gives_back : (b : Bool) (command : Command) (x : ℕ) → GivesPublic after (marked b command) x → GivesPublic program command x
  gives_back b (Store kind memory offset address value) x h = h
  gives_back b _ x h = h

  demanded_same : (one : Demand) → demanded_by after one ≡ demanded_by program one
  demanded_same (demand.Result function index) = refl
  demanded_same (demand.Global number) = refl

  loads_same : (s memory : ℕ) → LoadsSecret after s memory ↔ LoadsSecret program s memory
  loads_same s memory = stands set program (λ c. TakesSecret after c memory) (λ c. TakesSecret program c memory) s (λ b c. (takes_back b c memory, takes_on b c memory))

  stores_same : (position x : ℕ) → Stores after position x ↔ Stores program position x
  stores_same position x = stands set program (λ c. GivesPublic after c x) (λ c. GivesPublic program c x) position (λ b c. (gives_back b c x, gives_on b c x))

  holds_on : Holds program after
  holds_on = record {
    declares = declares_on;
    loads = λ s memory. (loads_same s memory).1;
    stores = λ position x. (stores_same position x).1;
    demands = λ x h. (h.0, h.1, demanded_same h.0 ∙ h.2);
    writes = λ s x. (writes_same set program s x).1;
    reads = λ s x. (reads_same set program s x).1;
    sinks = λ position x. (sinks_same set program position x).1;
  }

  holds_back : Holds after program
  holds_back = record {
    declares = declares_back;
    loads = λ s memory. (loads_same s memory).0;
    stores = λ position x. (stores_same position x).0;
    demands = λ x h. (h.0, h.1, sym (demanded_same h.0) ∙ h.2);
    writes = λ s x. (writes_same set program s x).0;
    reads = λ s x. (reads_same set program s x).0;
    sinks = λ position x. (sinks_same set program position x).0;
  }

  pub judged_on : (verdict : CtVerdict) → Judges program verdict → Judges after verdict
  judged_on (Yes labels) h = record {
    places = h.places;
    labelled = rules_in after program holds_back (labelling_of labels) h.labelled;
    least = λ x. (λ t. secret_in program after holds_on x ((h.least x).0 t), λ t. (h.least x).1 (secret_in after program holds_back x t));
  }
  judged_on (No chain) h = (chain_in program after holds_on chain h.0, λ constant. h.1 (constant.0, rules_in program after holds_on constant.0 constant.1))
