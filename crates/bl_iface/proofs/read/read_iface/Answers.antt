use Rattle.std.proofs.Common.{◌≡◌, ℕ, ◌+◌, Some, List, length, take, true, false, rules, ap, sym, subst, ◌∙◌, arith}
use Rattle.std.specs.Prelude.{option_and_then}
use Rattle.std.proofs.lemmas.Option.{none-some, same_Some}
use Rattle.bl_text.specs.Lines.{lines_of}
use Rattle.bl_iface.specs.Files.{Say, flows_of, function_in, function_of}
use Rattle.bl_iface.specs.JoinedProgram.{is_named}
use Rattle.bl_iface.specs.Names.{AreNames}
use Rattle.bl_iface.specs.declared.iface.FnIface.{FnIface}
use Rattle.bl_iface.proofs.FileLines.{agreed_name, bad_here, not_false, not_true, rest_more, say_all, say_more, say_nothing}
use Rattle.bl_iface.proofs.NameLemmas.{names_none, names_push}
use Rattle.bl_iface.proofs.read.read_iface.Goals as goal

pub loop-line-init : goal.loop-line-init
loop-line-init c = record {
  numbers = search rules;
  rest = search rules;
  say = subst (Say (take 0 (lines_of c.args.bytes.now))) (sym c.new-functions.ensures) (say_nothing (lines_of c.args.bytes.now));
  names = subst (λ (f : List FnIface). AreNames f c.new-names.result) (sym c.new-functions.ensures) (names_none c.new-names.result c.new-names.ensures.empty);
}

pub loop-line-preserved : goal.loop-line-preserved
loop-line-preserved c =
    let lines = lines_of c.args.bytes.now in
    let l = c.loop-line in
    let said : function_in c.in-Some.line.now ≡ Some c.in-Some-2.function =
    ap (option_and_then function_of) c.in-Some-parts_of.ensures ∙ sym c.in_ok-function.ensures ∙ c.in-Some-2.is in
    let named = sym (agreed_name c.in-Some-parts_of.parts.name.now (flows_of c.in-Some-parts_of.parts.params.now) (flows_of c.in-Some-parts_of.parts.results.now) c.in-Some-2.function (sym c.in_ok-function.ensures ∙ c.in-Some-2.is)) in
    let fresh : is_named l.functions c.in-Some-2.function.name ≡ false =
    ap (is_named l.functions) (sym named) ∙ sym (l.invariant.names c.in-Some-parts_of.parts.name) ∙ not_true _ (sym c.if-not-branch.false ∙ c.in_ok-insert.ensures.added) in
    record {
      numbers = omega (arith, ap (length {A = List ℕ}) c.in-Some.ensures.steps);
      rest = rest_more lines l.number l.functions _ c.in-Some.line.now _ c.in-Some.ensures.steps l.invariant.rest l.invariant.say;
      say = subst (Say (take (l.number + 1) lines)) (sym c.in_ok-push.ensures.ok)
          (say_more lines l.number l.functions _ c.in-Some.line.now _ c.in-Some.ensures.steps l.invariant.rest l.invariant.say c.in-Some-2.function said fresh);
      names = subst (λ (f : List FnIface). AreNames f c.insert.new.self) (sym c.in_ok-push.ensures.ok)
          (names_push l.functions c.in-Some-2.function l.names c.insert.new.self c.in-Some-parts_of.parts.name named l.invariant.names c.in_ok-insert.ensures.updates);
    }

pub returns-in_default : goal.returns-in_default
returns-in_default c =
    bad_here (lines_of c.args.bytes.now) c.loop-line.number c.loop-line.functions _ c.in-Some.line.now _ c.in-Some.ensures.steps c.loop-line.invariant.rest c.loop-line.invariant.say
    (λ one is. absurd (none-some one (sym (ap (option_and_then function_of) c.in_default.ensures) ∙ is)))

pub returns-in_default-2 : goal.returns-in_default-2
returns-in_default-2 c =
    bad_here (lines_of c.args.bytes.now) c.loop-line.number c.loop-line.functions _ c.in-Some.line.now _ c.in-Some.ensures.steps c.loop-line.invariant.rest c.loop-line.invariant.say
    (λ one is. absurd (none-some one (sym (ap (option_and_then function_of) c.in-Some-parts_of.ensures ∙ sym c.in_ok-function.ensures ∙ c.in_default-2.is) ∙ is)))

pub returns-then-not-branch : goal.returns-then-not-branch
returns-then-not-branch c =
    let l = c.loop-line in
    let said : function_in c.in-Some.line.now ≡ Some c.in-Some-2.function =
    ap (option_and_then function_of) c.in-Some-parts_of.ensures ∙ sym c.in_ok-function.ensures ∙ c.in-Some-2.is in
    let named = sym (agreed_name c.in-Some-parts_of.parts.name.now (flows_of c.in-Some-parts_of.parts.params.now) (flows_of c.in-Some-parts_of.parts.results.now) c.in-Some-2.function (sym c.in_ok-function.ensures ∙ c.in-Some-2.is)) in
    let stood : is_named l.functions c.in-Some-2.function.name ≡ true =
    ap (is_named l.functions) (sym named) ∙ sym (l.invariant.names c.in-Some-parts_of.parts.name) ∙ not_false _ (sym c.if-not-branch.true ∙ c.in_ok-insert.ensures.added) in
    bad_here (lines_of c.args.bytes.now) l.number l.functions _ c.in-Some.line.now _ c.in-Some.ensures.steps l.invariant.rest l.invariant.say
    (λ one is. ap (λ (f : FnIface). is_named l.functions f.name) (sym (same_Some c.in-Some-2.function one (sym said ∙ is))) ∙ stood)

pub returns : goal.returns
returns c = say_all (lines_of c.args.bytes.now) c.loop-line.number c.loop-line.functions _ c.in-None.ensures.steps.0 c.loop-line.invariant.rest c.loop-line.invariant.say
