-- What is said of a line that asks for nothing.
use Rattle.std.specs.Prelude.{ℕ, List, codes}
use Rattle.trace_faults.specs.declared.fault.LineFault.{LineFault}
use Rattle.trace_faults.specs.declared.fault.LineFault.TheVariants.{Empty, CarriageReturn, Tab, Space, UnknownWord, TooFewWords, TooManyWords, Key, SecondKey, Value}
use Rattle.trace_faults.specs.declared.fault.NumberFault.{NumberFault}
use Rattle.trace_faults.specs.declared.fault.NumberFault.TheVariants.{NotDecimal, LeadingZero, TooLarge}
use Rattle.trace_faults.specs.declared.fault.ValueFault.{ValueFault}
use Rattle.trace_faults.specs.declared.fault.ValueFault.TheVariants.{TooLong, OddDigits, NotHexadecimal}

-- of its key
abbrev pub key_text : NumberFault → List ℕ
key_text NotDecimal = codes "its key is no decimal number"
key_text LeadingZero = codes "its key begins with a zero"
key_text TooLarge = codes "its key is above 18446744073709551615"

-- of the key that a move goes to
abbrev pub second_key_text : NumberFault → List ℕ
second_key_text NotDecimal = codes "its second key is no decimal number"
second_key_text LeadingZero = codes "its second key begins with a zero"
second_key_text TooLarge = codes "its second key is above 18446744073709551615"

-- of its value
abbrev pub value_text : ValueFault → List ℕ
value_text TooLong = codes "its value is longer than 131072 bytes"
value_text OddDigits = codes "its value has an odd number of digits"
value_text NotHexadecimal = codes "its value has a byte that is no hexadecimal digit"

-- of the whole line
abbrev pub fault_text : LineFault → List ℕ
fault_text Empty = codes "it is empty"
fault_text CarriageReturn = codes "it has a carriage return; lines end in a line feed alone"
fault_text Tab = codes "it has a tab; one space stands between words"
fault_text Space = codes "it has a space too many; one stands between words, none at an end"
fault_text UnknownWord = codes "its first word is none of put, get, del and move"
fault_text TooFewWords = codes "it has too few words"
fault_text TooManyWords = codes "it has too many words"
fault_text (Key fault) = key_text fault
fault_text (SecondKey fault) = second_key_text fault
fault_text (Value fault) = value_text fault
