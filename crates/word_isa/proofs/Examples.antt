-- Words and their instructions, by hand.
use Rattle.std.specs.Prelude.{◌≡◌, Some, None, refl}
use Rattle.word_isa.specs.Instructions.{encoded}
use Rattle.word_isa.specs.Decoding.{decoded}
use Rattle.word_isa.specs.declared.instr.Instr.TheVariants.{Halt, Ldi, St, Jmp, Io, Time, Dma}

-- LDI r1 7 is 02100007, and TIME r2 is 17200000
load : encoded (Ldi 1 7) ≡ 0x02100007
load = refl

time : encoded (Time 2) ≡ 0x17200000
time = refl

-- a reading of peripheral 0 into r3, with one argument in r1, is 16310100
reading : decoded 0x16310100 ≡ Some (Io 3 1 256)
unfolding decoded
reading = refl

-- the word at r0 + 5 becomes r3: 13300005
store : decoded 0x13300005 ≡ Some (St 3 0 5)
unfolding decoded
store = refl

-- a jump has 24 bits
jump : decoded 0x14ffffff ≡ Some (Jmp 0xffffff)
unfolding decoded
jump = refl

copy : decoded 0x18120003 ≡ Some (Dma 1 2 3)
unfolding decoded
copy = refl

halt : decoded 0x01000000 ≡ Some Halt
unfolding decoded
halt = refl

-- a HALT with another bit, a fifth argument, an argument behind the last register, and a length in register 16 have no row
halt_with_more : decoded 0x01000001 ≡ None
unfolding decoded
halt_with_more = refl

five_arguments : decoded 0x16310500 ≡ None
unfolding decoded
five_arguments = refl

argument_too_far : decoded 0x160e0300 ≡ None
unfolding decoded
argument_too_far = refl

length_too_far : decoded 0x18120010 ≡ None
unfolding decoded
length_too_far = refl

-- codes 0 and 26 have no row
zero_word : decoded 0 ≡ None
unfolding decoded
zero_word = refl

code_26 : decoded 0x1a000000 ≡ None
unfolding decoded
code_26 = refl
