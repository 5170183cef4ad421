-- All calls and answers as the theory has them.
use Rattle.std.specs.Prelude.{Ok, Err, Result}
use Rattle.field.specs.declared.refusal.Refusal.{Refusal}
use Rattle.theory.specs.Case as theory
use Rattle.rules.specs.Claims.{call_of}
use Rattle.desk.specs.Model.{state_of}
use Rattle.caseroom.specs.declared.calls.Call.{Call}
use Rattle.caseroom.specs.declared.calls.Call.TheVariants as call
use Rattle.caseroom.specs.declared.calls.Reply.{Reply}
use Rattle.caseroom.specs.declared.calls.Reply.TheVariants as reply

abbrev pub heard : Call → theory.Call
heard (call.Claim c) = call_of c
heard (call.Order s) = theory.propose s.now
heard (call.House k) = theory.house k
heard (call.WhatIf a b) = theory.what_if a b
heard (call.Least a b) = theory.least a b

abbrev pub said : Result Reply Refusal → theory.Answer
said (Ok reply.Admitted) = theory.admitted
said (Ok (reply.Made t s)) = theory.made t (state_of s)
said (Ok (reply.Supposed c p)) = theory.supposed p c
said (Ok (reply.Says b)) = theory.says b
said (Err e) = theory.refused e
