-- What is so of one answer of a call is so of another.
use Rattle.std.proofs.Common.{Result, Ok, Err, IfOk, IfErr, OnErr, OnOk}

-- what follows at an answer of one kind
pub on_ok_then : {A E P Q : Type 0} (result : Result A E) → (P → Q) → OnOk result P → OnOk result Q
on_ok_then (Ok x) more is = more is
on_ok_then (Err e) more is = tt

pub if_ok_then : {A E : Type 0} {P Q : A → Type 0} (result : Result A E) → ((x : A) → P x → Q x) → IfOk result P → IfOk result Q
if_ok_then (Ok x) more is = more x is
if_ok_then (Err e) more is = tt

pub if_err_then : {A E : Type 0} {P Q : E → Type 0} (result : Result A E) → ((e : E) → P e → Q e) → IfErr result P → IfErr result Q
if_err_then (Ok x) more is = tt
if_err_then (Err e) more is = more e is

-- what is so at any answer is so at a refusal
pub on_err : {A E P : Type 0} (result : Result A E) → P → OnErr result P
on_err (Ok x) is = tt
on_err (Err e) is = is
