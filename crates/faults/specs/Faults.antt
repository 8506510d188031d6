-- The refusals: how a layer's fault becomes the bench's, and the layer, number and place of each.
use Rattle.std.specs.Prelude.{ℕ, List, [], ◌∷◌, Some, None, Option}
use Rattle.machine.specs.Orders.{number}
use Rattle.grammar.specs.declared.parse.GrammarFault.{GrammarFault}
use Rattle.grammar.specs.declared.parse.GrammarFault.TheVariants as grammar
use Rattle.need.specs.declared.NeedFault.{NeedFault}
use Rattle.need.specs.declared.NeedFault.TheVariants as need
use Rattle.rules.specs.declared.fault.RuleFault.{RuleFault}
use Rattle.rules.specs.declared.fault.RuleFault.TheVariants as rule
use Rattle.words.specs.declared.token.WordFault.{WordFault}
use Rattle.words.specs.declared.token.WordFault.TheVariants as word
use Rattle.faults.specs.declared.fault.BenchFault.{BenchFault}
use Rattle.faults.specs.declared.fault.BenchFault.TheVariants.{Loaded, TooLong, Unloaded, Ended, Running, Short}
use Rattle.faults.specs.declared.fault.Fault.{Fault}
use Rattle.faults.specs.declared.fault.Fault.TheVariants as fault
use Rattle.faults.specs.declared.fault.Layer.{Layer}
use Rattle.faults.specs.declared.fault.Layer.TheVariants as layer
use Rattle.faults.specs.declared.fault.Diagnosis.{Diagnosis}

-- machine, word, grammar, rule, need, bench
abbrev pub layer_word : Layer → List ℕ
layer_word layer.Machine = 109 ∷ 97 ∷ 99 ∷ 104 ∷ 105 ∷ 110 ∷ 101 ∷ []
layer_word layer.Word = 119 ∷ 111 ∷ 114 ∷ 100 ∷ []
layer_word layer.Grammar = 103 ∷ 114 ∷ 97 ∷ 109 ∷ 109 ∷ 97 ∷ 114 ∷ []
layer_word layer.Rule = 114 ∷ 117 ∷ 108 ∷ 101 ∷ []
layer_word layer.Need = 110 ∷ 101 ∷ 101 ∷ 100 ∷ []
layer_word layer.Bench = 98 ∷ 101 ∷ 110 ∷ 99 ∷ 104 ∷ []

abbrev pub from_bench : BenchFault → Fault
from_bench e = fault.Bench e

abbrev pub from_word : WordFault → Fault
from_word (word.Bad p) = fault.Word (word.Bad p)
from_word word.Memory = fault.Memory

abbrev pub from_grammar : GrammarFault → Fault
from_grammar (grammar.Stuck p) = fault.Grammar (grammar.Stuck p)
from_grammar grammar.Memory = fault.Memory

abbrev pub from_rule : RuleFault → Fault
from_rule (rule.Leaves p) = fault.Rule (rule.Leaves p)
from_rule (rule.Taken p) = fault.Rule (rule.Taken p)
from_rule (rule.Unknown p) = fault.Rule (rule.Unknown p)
from_rule (rule.Below p) = fault.Rule (rule.Below p)
from_rule (rule.Spent p) = fault.Rule (rule.Spent p)
from_rule (rule.Outside p) = fault.Rule (rule.Outside p)
from_rule (rule.Misfit p) = fault.Rule (rule.Misfit p)
from_rule (rule.Fixed p) = fault.Rule (rule.Fixed p)
from_rule (rule.Branches p) = fault.Rule (rule.Branches p)
from_rule (rule.Unspent p) = fault.Rule (rule.Unspent p)
from_rule rule.Memory = fault.Memory

abbrev pub from_need : NeedFault → Fault
from_need (need.Steps p) = fault.Need (need.Steps p)
from_need (need.Peak p) = fault.Need (need.Peak p)
from_need need.Memory = fault.Memory

abbrev pub refused_by : Layer → ℕ → ℕ → Option Diagnosis
refused_by l n p = Some (record { layer = l; number = n; place = p })

-- the bench's own: the numbers 1, 2 and 17 to 20, with no place
abbrev pub bench_diagnosis : BenchFault → Option Diagnosis
bench_diagnosis Loaded = refused_by layer.Bench 1 0
bench_diagnosis TooLong = refused_by layer.Bench 2 0
bench_diagnosis Unloaded = refused_by layer.Bench 17 0
bench_diagnosis Ended = refused_by layer.Bench 18 0
bench_diagnosis Running = refused_by layer.Bench 19 0
bench_diagnosis Short = refused_by layer.Bench 20 0

abbrev pub rule_diagnosis : RuleFault → Option Diagnosis
rule_diagnosis (rule.Leaves p) = refused_by layer.Rule 5 p
rule_diagnosis (rule.Taken p) = refused_by layer.Rule 6 p
rule_diagnosis (rule.Unknown p) = refused_by layer.Rule 7 p
rule_diagnosis (rule.Below p) = refused_by layer.Rule 8 p
rule_diagnosis (rule.Spent p) = refused_by layer.Rule 9 p
rule_diagnosis (rule.Outside p) = refused_by layer.Rule 10 p
rule_diagnosis (rule.Misfit p) = refused_by layer.Rule 11 p
rule_diagnosis (rule.Fixed p) = refused_by layer.Rule 12 p
rule_diagnosis (rule.Branches p) = refused_by layer.Rule 13 p
rule_diagnosis (rule.Unspent p) = refused_by layer.Rule 14 p
rule_diagnosis rule.Memory = None

-- the layer, number and place of a refusal; none for want of memory
abbrev pub diagnosis : Fault → Option Diagnosis
diagnosis (fault.Bench e) = bench_diagnosis e
diagnosis (fault.Word (word.Bad p)) = refused_by layer.Word 3 p
diagnosis (fault.Word word.Memory) = None
diagnosis (fault.Grammar (grammar.Stuck p)) = refused_by layer.Grammar 4 p
diagnosis (fault.Grammar grammar.Memory) = None
diagnosis (fault.Rule e) = rule_diagnosis e
diagnosis (fault.Need (need.Steps p)) = refused_by layer.Need 15 p
diagnosis (fault.Need (need.Peak p)) = refused_by layer.Need 16 p
diagnosis (fault.Need need.Memory) = None
diagnosis (fault.Machine e) = refused_by layer.Machine (number e) 0
diagnosis fault.Memory = None
