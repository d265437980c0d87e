-- The reading of worked examples, by computation. Assumes nothing.
use Rattle.std.proofs.Common.{◌≡◌, Bool, true, false, [], ◌∷◌, refl}
use Rattle.refusals.specs.declared.Refusal.TheVariants.{UnexpectedByte, UnmatchedBlock, BadNumber, TooLong, NestedTooDeep, BadCall}
use Rattle.grammar.specs.Machine.{run, reading, accepted, refused, Out}
use Rattle.grammar.specs.Rules.{open_blocks}

is_accepted : Out → Bool
is_accepted (accepted ts) = true
is_accepted (refused n p) = false

r0 : reading true (36 ∷ 49 ∷ 61 ∷ 50 ∷ 36 ∷ []) ≡ refused UnexpectedByte 3
unfolding run open_blocks
r0 = refl

r1 : reading true (36 ∷ 40 ∷ 97 ∷ 41 ∷ 61 ∷ 49 ∷ 36 ∷ []) ≡ refused UnexpectedByte 5
unfolding run open_blocks
r1 = refl

r2 : reading true (36 ∷ 97 ∷ 32 ∷ 61 ∷ 32 ∷ 98 ∷ 32 ∷ 61 ∷ 32 ∷ 49 ∷ 36 ∷ []) ≡ refused UnexpectedByte 8
unfolding run open_blocks
r2 = refl

r3 : reading true (36 ∷ 33 ∷ 61 ∷ 49 ∷ 36 ∷ []) ≡ refused UnexpectedByte 2
unfolding run open_blocks
r3 = refl

r4 : reading true (36 ∷ 49 ∷ 32 ∷ 33 ∷ 32 ∷ 50 ∷ 36 ∷ []) ≡ refused UnexpectedByte 4
unfolding run open_blocks
r4 = refl

r5 : reading true (36 ∷ 45 ∷ 45 ∷ 49 ∷ 36 ∷ []) ≡ refused UnexpectedByte 2
unfolding run open_blocks
r5 = refl

r6 : reading true (36 ∷ 120 ∷ 32 ∷ 43 ∷ 32 ∷ 73 ∷ 70 ∷ 36 ∷ []) ≡ refused UnexpectedByte 7
unfolding run open_blocks
r6 = refl

r7 : reading true (36 ∷ 70 ∷ 79 ∷ 82 ∷ 69 ∷ 65 ∷ 67 ∷ 72 ∷ 32 ∷ 73 ∷ 70 ∷ 32 ∷ 120 ∷ 36 ∷ []) ≡ refused UnexpectedByte 11
unfolding run open_blocks
r7 = refl

r8 : reading true (36 ∷ 70 ∷ 79 ∷ 82 ∷ 69 ∷ 65 ∷ 67 ∷ 72 ∷ 32 ∷ 105 ∷ 91 ∷ 48 ∷ 93 ∷ 32 ∷ 123 ∷ 49 ∷ 125 ∷ 36 ∷ []) ≡ refused UnexpectedByte 10
unfolding run open_blocks
r8 = refl

r9 : reading true (36 ∷ 74 ∷ 79 ∷ 73 ∷ 78 ∷ 69 ∷ 65 ∷ 67 ∷ 72 ∷ 32 ∷ 105 ∷ 32 ∷ 120 ∷ 36 ∷ []) ≡ refused UnexpectedByte 13
unfolding run open_blocks
r9 = refl

r10 : reading true (36 ∷ 73 ∷ 70 ∷ 36 ∷ []) ≡ refused UnexpectedByte 3
unfolding run open_blocks
r10 = refl

r11 : reading true (36 ∷ 48 ∷ 120 ∷ 36 ∷ []) ≡ refused UnexpectedByte 3
unfolding run open_blocks
r11 = refl

r12 : reading true (36 ∷ 48 ∷ 57 ∷ 36 ∷ []) ≡ refused UnexpectedByte 2
unfolding run open_blocks
r12 = refl

r13 : reading true (36 ∷ 49 ∷ 46 ∷ 53 ∷ 36 ∷ []) ≡ refused UnexpectedByte 2
unfolding run open_blocks
r13 = refl

r14 : reading true (36 ∷ 123 ∷ 49 ∷ 44 ∷ 50 ∷ 44 ∷ 46 ∷ 46 ∷ 46 ∷ 44 ∷ 53 ∷ 32 ∷ 61 ∷ 32 ∷ 49 ∷ 125 ∷ 36 ∷ []) ≡ refused UnexpectedByte 12
unfolding run open_blocks
r14 = refl

r15 : reading true (36 ∷ 123 ∷ 49 ∷ 44 ∷ 50 ∷ 44 ∷ 51 ∷ 44 ∷ 46 ∷ 46 ∷ 46 ∷ 44 ∷ 57 ∷ 125 ∷ 36 ∷ []) ≡ refused UnexpectedByte 8
unfolding run open_blocks
r15 = refl

r16 : reading true (36 ∷ 123 ∷ 43 ∷ 49 ∷ 44 ∷ 50 ∷ 44 ∷ 46 ∷ 46 ∷ 46 ∷ 44 ∷ 57 ∷ 125 ∷ 36 ∷ []) ≡ refused UnexpectedByte 7
unfolding run open_blocks
r16 = refl

r17 : reading true (36 ∷ 123 ∷ 49 ∷ 59 ∷ 125 ∷ 36 ∷ []) ≡ refused UnexpectedByte 4
unfolding run open_blocks
r17 = refl

r18 : reading true (36 ∷ 97 ∷ 91 ∷ 93 ∷ 36 ∷ []) ≡ refused UnexpectedByte 3
unfolding run open_blocks
r18 = refl

r19 : reading true (36 ∷ 76 ∷ 69 ∷ 78 ∷ 71 ∷ 84 ∷ 72 ∷ 40 ∷ 44 ∷ 41 ∷ 36 ∷ []) ≡ refused UnexpectedByte 8
unfolding run open_blocks
r19 = refl

r20 : reading true (36 ∷ 34 ∷ 97 ∷ 92 ∷ 113 ∷ 34 ∷ 36 ∷ []) ≡ refused UnexpectedByte 4
unfolding run open_blocks
r20 = refl

r21 : reading true (36 ∷ 34 ∷ 97 ∷ 98 ∷ 99 ∷ 10 ∷ 34 ∷ 36 ∷ []) ≡ refused UnexpectedByte 5
unfolding run open_blocks
r21 = refl

r22 : reading true (36 ∷ 49 ∷ 32 ∷ 43 ∷ 10 ∷ 32 ∷ 50 ∷ 36 ∷ []) ≡ refused UnexpectedByte 4
unfolding run open_blocks
r22 = refl

r23 : reading true (97 ∷ 36 ∷ 32 ∷ 36 ∷ []) ≡ refused UnexpectedByte 3
unfolding run open_blocks
r23 = refl

r24 : reading true (36 ∷ 34 ∷ 97 ∷ 98 ∷ 99 ∷ []) ≡ refused UnexpectedByte 5
unfolding run open_blocks
r24 = refl

r25 : reading true (36 ∷ 73 ∷ 70 ∷ 32 ∷ 49 ∷ 36 ∷ 120 ∷ 36 ∷ []) ≡ refused UnexpectedByte 8
unfolding run open_blocks
r25 = refl

r26 : reading true (36 ∷ 69 ∷ 78 ∷ 68 ∷ 32 ∷ 120 ∷ []) ≡ refused UnmatchedBlock 0
unfolding run open_blocks
r26 = refl

r27 : reading true (36 ∷ 69 ∷ 78 ∷ 68 ∷ []) ≡ refused UnexpectedByte 4
unfolding run open_blocks
r27 = refl

r28 : reading true (36 ∷ 69 ∷ 78 ∷ 68 ∷ 10 ∷ []) ≡ refused UnexpectedByte 4
unfolding run open_blocks
r28 = refl

r29 : reading true (97 ∷ 98 ∷ 36 ∷ 69 ∷ 76 ∷ 83 ∷ 69 ∷ 36 ∷ []) ≡ refused UnmatchedBlock 2
unfolding run open_blocks
r29 = refl

r30 : reading true (36 ∷ 73 ∷ 70 ∷ 32 ∷ 49 ∷ 36 ∷ 36 ∷ 69 ∷ 76 ∷ 83 ∷ 69 ∷ 36 ∷ 36 ∷ 69 ∷ 76 ∷ 73 ∷ 70 ∷ 32 ∷ 49 ∷ 36 ∷ 36 ∷ 69 ∷ 78 ∷ 68 ∷ 36 ∷ []) ≡ refused UnmatchedBlock 12
unfolding run open_blocks
r30 = refl

r31 : reading true (36 ∷ 73 ∷ 70 ∷ 32 ∷ 49 ∷ 36 ∷ 36 ∷ 87 ∷ 72 ∷ 73 ∷ 76 ∷ 69 ∷ 32 ∷ 48 ∷ 36 ∷ 36 ∷ 69 ∷ 76 ∷ 83 ∷ 69 ∷ 36 ∷ []) ≡ refused UnmatchedBlock 15
unfolding run open_blocks
r31 = refl

r32 : reading true (36 ∷ 73 ∷ 70 ∷ 32 ∷ 49 ∷ 36 ∷ 36 ∷ 70 ∷ 79 ∷ 82 ∷ 69 ∷ 65 ∷ 67 ∷ 72 ∷ 32 ∷ 105 ∷ 32 ∷ 123 ∷ 125 ∷ 36 ∷ 120 ∷ []) ≡ refused UnmatchedBlock 6
unfolding run open_blocks
r32 = refl

r33 : reading true (36 ∷ 73 ∷ 70 ∷ 32 ∷ 49 ∷ 36 ∷ 97 ∷ 36 ∷ 69 ∷ 76 ∷ 83 ∷ 69 ∷ 36 ∷ 98 ∷ []) ≡ refused UnmatchedBlock 0
unfolding run open_blocks
r33 = refl

r34 : reading true (36 ∷ 57 ∷ 50 ∷ 50 ∷ 51 ∷ 51 ∷ 55 ∷ 50 ∷ 48 ∷ 51 ∷ 54 ∷ 56 ∷ 53 ∷ 52 ∷ 55 ∷ 55 ∷ 53 ∷ 56 ∷ 48 ∷ 56 ∷ 36 ∷ []) ≡ refused BadNumber 1
unfolding run open_blocks
r34 = refl

r35 : reading true (36 ∷ 45 ∷ 57 ∷ 50 ∷ 50 ∷ 51 ∷ 51 ∷ 55 ∷ 50 ∷ 48 ∷ 51 ∷ 54 ∷ 56 ∷ 53 ∷ 52 ∷ 55 ∷ 55 ∷ 53 ∷ 56 ∷ 48 ∷ 56 ∷ 36 ∷ []) ≡ refused BadNumber 2
unfolding run open_blocks
r35 = refl

r36 : reading true (36 ∷ 57 ∷ 50 ∷ 50 ∷ 51 ∷ 51 ∷ 55 ∷ 50 ∷ 48 ∷ 51 ∷ 54 ∷ 56 ∷ 53 ∷ 52 ∷ 55 ∷ 55 ∷ 53 ∷ 56 ∷ 48 ∷ 56 ∷ 61 ∷ 49 ∷ 36 ∷ []) ≡ refused BadNumber 1
unfolding run open_blocks
r36 = refl

r37 : reading true (36 ∷ 57 ∷ 50 ∷ 50 ∷ 51 ∷ 51 ∷ 55 ∷ 50 ∷ 48 ∷ 51 ∷ 54 ∷ 56 ∷ 53 ∷ 52 ∷ 55 ∷ 55 ∷ 53 ∷ 56 ∷ 48 ∷ 56 ∷ 120 ∷ 36 ∷ []) ≡ refused UnexpectedByte 20
unfolding run open_blocks
r37 = refl

r38 : reading true (36 ∷ 40 ∷ 57 ∷ 50 ∷ 50 ∷ 51 ∷ 51 ∷ 55 ∷ 50 ∷ 48 ∷ 51 ∷ 54 ∷ 56 ∷ 53 ∷ 52 ∷ 55 ∷ 55 ∷ 53 ∷ 56 ∷ 48 ∷ 56 ∷ 36 ∷ []) ≡ refused UnexpectedByte 21
unfolding run open_blocks
r38 = refl

r39 : reading true (36 ∷ 123 ∷ 50 ∷ 44 ∷ 53 ∷ 44 ∷ 46 ∷ 46 ∷ 46 ∷ 44 ∷ 49 ∷ 54 ∷ 125 ∷ 36 ∷ []) ≡ refused BadNumber 2
unfolding run open_blocks
r39 = refl

r40 : reading true (36 ∷ 123 ∷ 50 ∷ 44 ∷ 50 ∷ 44 ∷ 46 ∷ 46 ∷ 46 ∷ 44 ∷ 50 ∷ 125 ∷ 36 ∷ []) ≡ refused BadNumber 2
unfolding run open_blocks
r40 = refl

r41 : reading true (36 ∷ 123 ∷ 49 ∷ 59 ∷ 53 ∷ 44 ∷ 52 ∷ 44 ∷ 46 ∷ 46 ∷ 46 ∷ 44 ∷ 54 ∷ 125 ∷ 36 ∷ []) ≡ refused BadNumber 4
unfolding run open_blocks
r41 = refl

r42 : reading true (36 ∷ 123 ∷ 49 ∷ 44 ∷ 50 ∷ 44 ∷ 46 ∷ 46 ∷ 46 ∷ 44 ∷ 57 ∷ 50 ∷ 50 ∷ 51 ∷ 51 ∷ 55 ∷ 50 ∷ 48 ∷ 51 ∷ 54 ∷ 56 ∷ 53 ∷ 52 ∷ 55 ∷ 55 ∷ 53 ∷ 56 ∷ 48 ∷ 56 ∷ 125 ∷ 36 ∷ []) ≡ refused BadNumber 10
unfolding run open_blocks
r42 = refl

r43 : reading true (36 ∷ 97 ∷ 97 ∷ 97 ∷ 97 ∷ 97 ∷ 97 ∷ 97 ∷ 97 ∷ 97 ∷ 97 ∷ 97 ∷ 97 ∷ 97 ∷ 97 ∷ 97 ∷ 97 ∷ 97 ∷ 97 ∷ 97 ∷ 97 ∷ 97 ∷ 97 ∷ 97 ∷ 97 ∷ 97 ∷ 36 ∷ []) ≡ refused TooLong 1
unfolding run open_blocks
r43 = refl

r44 : reading true (36 ∷ 97 ∷ 97 ∷ 97 ∷ 97 ∷ 97 ∷ 97 ∷ 97 ∷ 97 ∷ 97 ∷ 97 ∷ 97 ∷ 97 ∷ 97 ∷ 97 ∷ 97 ∷ 97 ∷ 97 ∷ 97 ∷ 97 ∷ 97 ∷ 97 ∷ 97 ∷ 97 ∷ 97 ∷ 97 ∷ 40 ∷ 49 ∷ 41 ∷ 36 ∷ []) ≡ refused TooLong 1
unfolding run open_blocks
r44 = refl

r45 : reading true (36 ∷ 70 ∷ 79 ∷ 82 ∷ 69 ∷ 65 ∷ 67 ∷ 72 ∷ 32 ∷ 97 ∷ 97 ∷ 97 ∷ 97 ∷ 97 ∷ 97 ∷ 97 ∷ 97 ∷ 97 ∷ 97 ∷ 97 ∷ 97 ∷ 97 ∷ 97 ∷ 97 ∷ 97 ∷ 97 ∷ 97 ∷ 97 ∷ 97 ∷ 97 ∷ 97 ∷ 97 ∷ 97 ∷ 97 ∷ 32 ∷ 123 ∷ 125 ∷ 36 ∷ 36 ∷ 69 ∷ 78 ∷ 68 ∷ 36 ∷ []) ≡ refused TooLong 9
unfolding run open_blocks
r45 = refl

r46 : reading true (36 ∷ 120 ∷ 32 ∷ 61 ∷ 32 ∷ 34 ∷ 49 ∷ 50 ∷ 51 ∷ 52 ∷ 53 ∷ 54 ∷ 55 ∷ 56 ∷ 57 ∷ 48 ∷ 49 ∷ 50 ∷ 51 ∷ 52 ∷ 53 ∷ 54 ∷ 55 ∷ 56 ∷ 57 ∷ 48 ∷ 49 ∷ 50 ∷ 51 ∷ 52 ∷ 53 ∷ 54 ∷ 55 ∷ 56 ∷ 57 ∷ 48 ∷ 49 ∷ 50 ∷ 51 ∷ 34 ∷ 36 ∷ []) ≡ refused TooLong 5
unfolding run open_blocks
r46 = refl

r47 : reading true (36 ∷ 48 ∷ 120 ∷ 48 ∷ 48 ∷ 48 ∷ 48 ∷ 48 ∷ 48 ∷ 48 ∷ 48 ∷ 48 ∷ 48 ∷ 48 ∷ 48 ∷ 48 ∷ 48 ∷ 48 ∷ 48 ∷ 48 ∷ 48 ∷ 48 ∷ 48 ∷ 48 ∷ 48 ∷ 48 ∷ 48 ∷ 48 ∷ 48 ∷ 48 ∷ 48 ∷ 48 ∷ 48 ∷ 49 ∷ 36 ∷ []) ≡ refused TooLong 1
unfolding run open_blocks
r47 = refl

r48 : reading true (36 ∷ 49 ∷ 49 ∷ 49 ∷ 49 ∷ 49 ∷ 49 ∷ 49 ∷ 49 ∷ 49 ∷ 49 ∷ 49 ∷ 49 ∷ 49 ∷ 49 ∷ 49 ∷ 49 ∷ 49 ∷ 49 ∷ 49 ∷ 49 ∷ 49 ∷ 49 ∷ 49 ∷ 49 ∷ 49 ∷ 49 ∷ 49 ∷ 49 ∷ 49 ∷ 49 ∷ 49 ∷ 49 ∷ 49 ∷ 36 ∷ []) ≡ refused BadNumber 1
unfolding run open_blocks
r48 = refl

r49 : reading true (36 ∷ 40 ∷ 40 ∷ 40 ∷ 40 ∷ 40 ∷ 40 ∷ 40 ∷ 40 ∷ 40 ∷ 40 ∷ 40 ∷ 40 ∷ 40 ∷ 49 ∷ 41 ∷ 41 ∷ 41 ∷ 41 ∷ 41 ∷ 41 ∷ 41 ∷ 41 ∷ 41 ∷ 41 ∷ 41 ∷ 41 ∷ 41 ∷ 36 ∷ []) ≡ refused NestedTooDeep 13
unfolding run open_blocks
r49 = refl

r50 : reading true (36 ∷ 40 ∷ 40 ∷ 40 ∷ 40 ∷ 40 ∷ 40 ∷ 40 ∷ 40 ∷ 40 ∷ 40 ∷ 40 ∷ 40 ∷ 102 ∷ 40 ∷ 49 ∷ 41 ∷ 41 ∷ 41 ∷ 41 ∷ 41 ∷ 41 ∷ 41 ∷ 41 ∷ 41 ∷ 41 ∷ 41 ∷ 41 ∷ 41 ∷ 41 ∷ 36 ∷ []) ≡ refused NestedTooDeep 14
unfolding run open_blocks
r50 = refl

r51 : reading true (36 ∷ 40 ∷ 40 ∷ 40 ∷ 40 ∷ 40 ∷ 40 ∷ 40 ∷ 40 ∷ 40 ∷ 40 ∷ 40 ∷ 40 ∷ 97 ∷ 91 ∷ 49 ∷ 93 ∷ 41 ∷ 41 ∷ 41 ∷ 41 ∷ 41 ∷ 41 ∷ 41 ∷ 41 ∷ 41 ∷ 41 ∷ 41 ∷ 41 ∷ 36 ∷ []) ≡ refused NestedTooDeep 14
unfolding run open_blocks
r51 = refl

r52 : reading true (36 ∷ 83 ∷ 85 ∷ 77 ∷ 40 ∷ 64 ∷ 41 ∷ 36 ∷ []) ≡ refused BadCall 1
unfolding run open_blocks
r52 = refl

r53 : reading true (36 ∷ 108 ∷ 101 ∷ 110 ∷ 103 ∷ 116 ∷ 104 ∷ 40 ∷ 120 ∷ 41 ∷ 36 ∷ []) ≡ refused BadCall 1
unfolding run open_blocks
r53 = refl

r54 : reading true (36 ∷ 76 ∷ 69 ∷ 78 ∷ 71 ∷ 84 ∷ 72 ∷ 40 ∷ 41 ∷ 36 ∷ []) ≡ refused BadCall 1
unfolding run open_blocks
r54 = refl

r55 : reading true (36 ∷ 49 ∷ 32 ∷ 43 ∷ 32 ∷ 69 ∷ 81 ∷ 40 ∷ 49 ∷ 41 ∷ 36 ∷ []) ≡ refused BadCall 5
unfolding run open_blocks
r55 = refl

r56 : reading true (36 ∷ 65 ∷ 80 ∷ 80 ∷ 69 ∷ 78 ∷ 68 ∷ 40 ∷ 49 ∷ 44 ∷ 50 ∷ 44 ∷ 51 ∷ 44 ∷ 52 ∷ 44 ∷ 53 ∷ 41 ∷ 36 ∷ []) ≡ refused BadCall 1
unfolding run open_blocks
r56 = refl

r57 : reading true (36 ∷ 69 ∷ 81 ∷ 40 ∷ 49 ∷ 44 ∷ 50 ∷ 44 ∷ 51 ∷ []) ≡ refused UnexpectedByte 9
unfolding run open_blocks
r57 = refl

r58 : reading true (36 ∷ 83 ∷ 85 ∷ 77 ∷ 40 ∷ 49 ∷ 41 ∷ 32 ∷ 43 ∷ 32 ∷ 57 ∷ 50 ∷ 50 ∷ 51 ∷ 51 ∷ 55 ∷ 50 ∷ 48 ∷ 51 ∷ 54 ∷ 56 ∷ 53 ∷ 52 ∷ 55 ∷ 55 ∷ 53 ∷ 56 ∷ 48 ∷ 56 ∷ 36 ∷ []) ≡ refused BadCall 1
unfolding run open_blocks
r58 = refl

r59 : reading true (36 ∷ 73 ∷ 70 ∷ 32 ∷ 49 ∷ 36 ∷ 36 ∷ 73 ∷ 70 ∷ 32 ∷ 49 ∷ 36 ∷ 36 ∷ 73 ∷ 70 ∷ 32 ∷ 49 ∷ 36 ∷ 36 ∷ 73 ∷ 70 ∷ 32 ∷ 49 ∷ 36 ∷ 36 ∷ 73 ∷ 70 ∷ 32 ∷ 49 ∷ 36 ∷ 36 ∷ 73 ∷ 70 ∷ 32 ∷ 49 ∷ 36 ∷ 36 ∷ 73 ∷ 70 ∷ 32 ∷ 49 ∷ 36 ∷ 36 ∷ 73 ∷ 70 ∷ 32 ∷ 49 ∷ 36 ∷ 36 ∷ 73 ∷ 70 ∷ 32 ∷ 49 ∷ 36 ∷ 36 ∷ 73 ∷ 70 ∷ 32 ∷ 49 ∷ 36 ∷ 36 ∷ 73 ∷ 70 ∷ 32 ∷ 49 ∷ 36 ∷ 36 ∷ 73 ∷ 70 ∷ 32 ∷ 49 ∷ 36 ∷ 36 ∷ 73 ∷ 70 ∷ 32 ∷ 49 ∷ 36 ∷ []) ≡ refused UnmatchedBlock 72
unfolding run open_blocks
r59 = refl

r60 : reading true (36 ∷ 73 ∷ 70 ∷ 32 ∷ 49 ∷ 36 ∷ 36 ∷ 73 ∷ 70 ∷ 32 ∷ 49 ∷ 36 ∷ 36 ∷ 73 ∷ 70 ∷ 32 ∷ 49 ∷ 36 ∷ 36 ∷ 73 ∷ 70 ∷ 32 ∷ 49 ∷ 36 ∷ 36 ∷ 73 ∷ 70 ∷ 32 ∷ 49 ∷ 36 ∷ 36 ∷ 73 ∷ 70 ∷ 32 ∷ 49 ∷ 36 ∷ 36 ∷ 73 ∷ 70 ∷ 32 ∷ 49 ∷ 36 ∷ 36 ∷ 73 ∷ 70 ∷ 32 ∷ 49 ∷ 36 ∷ 36 ∷ 73 ∷ 70 ∷ 32 ∷ 49 ∷ 36 ∷ 36 ∷ 73 ∷ 70 ∷ 32 ∷ 49 ∷ 36 ∷ 36 ∷ 73 ∷ 70 ∷ 32 ∷ 49 ∷ 36 ∷ 36 ∷ 73 ∷ 70 ∷ 32 ∷ 49 ∷ 36 ∷ 36 ∷ 73 ∷ 70 ∷ 40 ∷ 49 ∷ 41 ∷ 36 ∷ []) ≡ refused UnmatchedBlock 72
unfolding run open_blocks
r60 = refl

r61 : reading true (36 ∷ 73 ∷ 70 ∷ 32 ∷ 49 ∷ 36 ∷ 36 ∷ 73 ∷ 70 ∷ 32 ∷ 49 ∷ 36 ∷ 36 ∷ 73 ∷ 70 ∷ 32 ∷ 49 ∷ 36 ∷ 36 ∷ 73 ∷ 70 ∷ 32 ∷ 49 ∷ 36 ∷ 36 ∷ 73 ∷ 70 ∷ 32 ∷ 49 ∷ 36 ∷ 36 ∷ 73 ∷ 70 ∷ 32 ∷ 49 ∷ 36 ∷ 36 ∷ 73 ∷ 70 ∷ 32 ∷ 49 ∷ 36 ∷ 36 ∷ 73 ∷ 70 ∷ 32 ∷ 49 ∷ 36 ∷ 36 ∷ 73 ∷ 70 ∷ 32 ∷ 49 ∷ 36 ∷ 36 ∷ 73 ∷ 70 ∷ 32 ∷ 49 ∷ 36 ∷ 36 ∷ 73 ∷ 70 ∷ 32 ∷ 49 ∷ 36 ∷ 36 ∷ 73 ∷ 70 ∷ 32 ∷ 49 ∷ 36 ∷ 36 ∷ 73 ∷ 70 ∷ 36 ∷ []) ≡ refused UnexpectedByte 75
unfolding run open_blocks
r61 = refl

r62 : reading true (36 ∷ 73 ∷ 70 ∷ 32 ∷ 49 ∷ 36 ∷ 36 ∷ 73 ∷ 70 ∷ 32 ∷ 49 ∷ 36 ∷ 36 ∷ 73 ∷ 70 ∷ 32 ∷ 49 ∷ 36 ∷ 36 ∷ 73 ∷ 70 ∷ 32 ∷ 49 ∷ 36 ∷ 36 ∷ 73 ∷ 70 ∷ 32 ∷ 49 ∷ 36 ∷ 36 ∷ 73 ∷ 70 ∷ 32 ∷ 49 ∷ 36 ∷ 36 ∷ 73 ∷ 70 ∷ 32 ∷ 49 ∷ 36 ∷ 36 ∷ 73 ∷ 70 ∷ 32 ∷ 49 ∷ 36 ∷ 36 ∷ 73 ∷ 70 ∷ 32 ∷ 49 ∷ 36 ∷ 36 ∷ 73 ∷ 70 ∷ 32 ∷ 49 ∷ 36 ∷ 36 ∷ 73 ∷ 70 ∷ 32 ∷ 49 ∷ 36 ∷ 36 ∷ 73 ∷ 70 ∷ 32 ∷ 49 ∷ 36 ∷ 36 ∷ 87 ∷ 72 ∷ 73 ∷ 76 ∷ 69 ∷ 32 ∷ 64 ∷ []) ≡ refused UnmatchedBlock 72
unfolding run open_blocks
r62 = refl

r63 : reading true (36 ∷ 73 ∷ 70 ∷ 32 ∷ 49 ∷ 36 ∷ 36 ∷ 73 ∷ 70 ∷ 32 ∷ 49 ∷ 36 ∷ 36 ∷ 73 ∷ 70 ∷ 32 ∷ 49 ∷ 36 ∷ 36 ∷ 73 ∷ 70 ∷ 32 ∷ 49 ∷ 36 ∷ 36 ∷ 73 ∷ 70 ∷ 32 ∷ 49 ∷ 36 ∷ 36 ∷ 73 ∷ 70 ∷ 32 ∷ 49 ∷ 36 ∷ 36 ∷ 73 ∷ 70 ∷ 32 ∷ 49 ∷ 36 ∷ 36 ∷ 73 ∷ 70 ∷ 32 ∷ 49 ∷ 36 ∷ 36 ∷ 73 ∷ 70 ∷ 32 ∷ 49 ∷ 36 ∷ 36 ∷ 73 ∷ 70 ∷ 32 ∷ 49 ∷ 36 ∷ 36 ∷ 73 ∷ 70 ∷ 32 ∷ 49 ∷ 36 ∷ 36 ∷ 73 ∷ 70 ∷ 32 ∷ 49 ∷ 36 ∷ 36 ∷ 87 ∷ 72 ∷ 73 ∷ 76 ∷ 69 ∷ 64 ∷ []) ≡ refused UnexpectedByte 78
unfolding run open_blocks
r63 = refl

r64 : reading true (36 ∷ 123 ∷ 49 ∷ 44 ∷ 50 ∷ 44 ∷ 46 ∷ 46 ∷ 46 ∷ 44 ∷ 48 ∷ 48 ∷ 48 ∷ 48 ∷ 48 ∷ 48 ∷ 48 ∷ 48 ∷ 48 ∷ 48 ∷ 48 ∷ 48 ∷ 48 ∷ 48 ∷ 48 ∷ 48 ∷ 48 ∷ 48 ∷ 48 ∷ 48 ∷ 48 ∷ 48 ∷ 48 ∷ 48 ∷ 48 ∷ 48 ∷ 48 ∷ 48 ∷ 48 ∷ 48 ∷ 48 ∷ 48 ∷ 49 ∷ 125 ∷ 36 ∷ []) ≡ refused BadNumber 2
unfolding run open_blocks
r64 = refl

r65 : reading true (36 ∷ 97 ∷ 32 ∷ 61 ∷ 32 ∷ 61 ∷ 32 ∷ 98 ∷ 36 ∷ []) ≡ refused UnexpectedByte 5
unfolding run open_blocks
r65 = refl

r66 : reading true (36 ∷ 97 ∷ 32 ∷ 61 ∷ 61 ∷ 32 ∷ 98 ∷ 32 ∷ 61 ∷ 32 ∷ 99 ∷ 36 ∷ []) ≡ refused UnexpectedByte 9
unfolding run open_blocks
r66 = refl

a0 : is_accepted (reading true ([])) ≡ true
unfolding run open_blocks is_accepted
a0 = refl

a1 : is_accepted (reading true (97 ∷ 36 ∷ 36 ∷ 98 ∷ [])) ≡ true
unfolding run open_blocks is_accepted
a1 = refl

a2 : is_accepted (reading true (36 ∷ 45 ∷ 55 ∷ 32 ∷ 47 ∷ 32 ∷ 50 ∷ 36 ∷ [])) ≡ true
unfolding run open_blocks is_accepted
a2 = refl

a3 : is_accepted (reading true (36 ∷ 48 ∷ 32 ∷ 38 ∷ 38 ∷ 32 ∷ 49 ∷ 47 ∷ 48 ∷ 36 ∷ [])) ≡ true
unfolding run open_blocks is_accepted
a3 = refl

a4 : is_accepted (reading true (36 ∷ 97 ∷ 91 ∷ 49 ∷ 32 ∷ 43 ∷ 32 ∷ 50 ∷ 93 ∷ 32 ∷ 61 ∷ 32 ∷ 53 ∷ 36 ∷ 36 ∷ 97 ∷ 91 ∷ 51 ∷ 93 ∷ 36 ∷ [])) ≡ true
unfolding run open_blocks is_accepted
a4 = refl

a5 : is_accepted (reading true (36 ∷ 73 ∷ 70 ∷ 32 ∷ 48 ∷ 36 ∷ 120 ∷ 36 ∷ 69 ∷ 76 ∷ 73 ∷ 70 ∷ 32 ∷ 49 ∷ 36 ∷ 121 ∷ 36 ∷ 69 ∷ 76 ∷ 83 ∷ 69 ∷ 36 ∷ 122 ∷ 36 ∷ 69 ∷ 78 ∷ 68 ∷ 36 ∷ [])) ≡ true
unfolding run open_blocks is_accepted
a5 = refl

a6 : is_accepted (reading true (36 ∷ 110 ∷ 32 ∷ 61 ∷ 32 ∷ 50 ∷ 36 ∷ 36 ∷ 87 ∷ 72 ∷ 73 ∷ 76 ∷ 69 ∷ 32 ∷ 110 ∷ 36 ∷ 36 ∷ 110 ∷ 36 ∷ 36 ∷ 110 ∷ 32 ∷ 61 ∷ 32 ∷ 110 ∷ 32 ∷ 45 ∷ 32 ∷ 49 ∷ 36 ∷ 36 ∷ 69 ∷ 78 ∷ 68 ∷ 36 ∷ [])) ≡ true
unfolding run open_blocks is_accepted
a6 = refl

a7 : is_accepted (reading true (36 ∷ 74 ∷ 79 ∷ 73 ∷ 78 ∷ 69 ∷ 65 ∷ 67 ∷ 72 ∷ 32 ∷ 105 ∷ 32 ∷ 123 ∷ 49 ∷ 44 ∷ 50 ∷ 125 ∷ 32 ∷ 34 ∷ 45 ∷ 34 ∷ 36 ∷ 36 ∷ 105 ∷ 36 ∷ 36 ∷ 69 ∷ 78 ∷ 68 ∷ 36 ∷ [])) ≡ true
unfolding run open_blocks is_accepted
a7 = refl

a8 : is_accepted (reading true (36 ∷ 65 ∷ 84 ∷ 40 ∷ 123 ∷ 52 ∷ 44 ∷ 53 ∷ 44 ∷ 54 ∷ 125 ∷ 44 ∷ 32 ∷ 49 ∷ 32 ∷ 43 ∷ 32 ∷ 49 ∷ 41 ∷ 36 ∷ [])) ≡ true
unfolding run open_blocks is_accepted
a8 = refl

a9 : is_accepted (reading true (36 ∷ 70 ∷ 79 ∷ 82 ∷ 69 ∷ 65 ∷ 67 ∷ 72 ∷ 32 ∷ 105 ∷ 32 ∷ 123 ∷ 49 ∷ 44 ∷ 50 ∷ 44 ∷ 51 ∷ 125 ∷ 36 ∷ 36 ∷ 105 ∷ 32 ∷ 43 ∷ 32 ∷ 49 ∷ 36 ∷ 59 ∷ 36 ∷ 69 ∷ 78 ∷ 68 ∷ 36 ∷ [])) ≡ true
unfolding run open_blocks is_accepted
a9 = refl

a10 : is_accepted (reading true (36 ∷ 123 ∷ 48 ∷ 59 ∷ 49 ∷ 48 ∷ 44 ∷ 50 ∷ 48 ∷ 44 ∷ 46 ∷ 46 ∷ 46 ∷ 44 ∷ 52 ∷ 48 ∷ 59 ∷ 57 ∷ 57 ∷ 125 ∷ 36 ∷ [])) ≡ true
unfolding run open_blocks is_accepted
a10 = refl

a11 : is_accepted (reading true (36 ∷ 73 ∷ 70 ∷ 40 ∷ 49 ∷ 41 ∷ 36 ∷ 36 ∷ 69 ∷ 78 ∷ 68 ∷ 36 ∷ [])) ≡ true
unfolding run open_blocks is_accepted
a11 = refl

a12 : is_accepted (reading true (36 ∷ 70 ∷ 79 ∷ 82 ∷ 69 ∷ 65 ∷ 67 ∷ 72 ∷ 32 ∷ 105 ∷ 32 ∷ 45 ∷ 49 ∷ 36 ∷ 36 ∷ 69 ∷ 78 ∷ 68 ∷ 36 ∷ [])) ≡ true
unfolding run open_blocks is_accepted
a12 = refl

a13 : is_accepted (reading true (36 ∷ 70 ∷ 79 ∷ 82 ∷ 69 ∷ 65 ∷ 67 ∷ 72 ∷ 32 ∷ 105 ∷ 40 ∷ 120 ∷ 41 ∷ 36 ∷ 36 ∷ 69 ∷ 78 ∷ 68 ∷ 36 ∷ [])) ≡ true
unfolding run open_blocks is_accepted
a13 = refl

a14 : is_accepted (reading true (32 ∷ 32 ∷ 36 ∷ 32 ∷ 99 ∷ 36 ∷ 120 ∷ [])) ≡ true
unfolding run open_blocks is_accepted
a14 = refl

a15 : is_accepted (reading true (13 ∷ 32 ∷ 97 ∷ [])) ≡ true
unfolding run open_blocks is_accepted
a15 = refl

a16 : is_accepted (reading true (36 ∷ 40 ∷ 40 ∷ 40 ∷ 40 ∷ 40 ∷ 40 ∷ 40 ∷ 40 ∷ 40 ∷ 40 ∷ 40 ∷ 40 ∷ 49 ∷ 41 ∷ 41 ∷ 41 ∷ 41 ∷ 41 ∷ 41 ∷ 41 ∷ 41 ∷ 41 ∷ 41 ∷ 41 ∷ 41 ∷ 36 ∷ [])) ≡ true
unfolding run open_blocks is_accepted
a16 = refl

a17 : is_accepted (reading true (36 ∷ 48 ∷ 36 ∷ 36 ∷ 48 ∷ 49 ∷ 48 ∷ 36 ∷ 36 ∷ 48 ∷ 120 ∷ 49 ∷ 70 ∷ 36 ∷ 36 ∷ 97 ∷ 46 ∷ 98 ∷ 95 ∷ 99 ∷ 36 ∷ [])) ≡ true
unfolding run open_blocks is_accepted
a17 = refl

a18 : is_accepted (reading true (36 ∷ 49 ∷ 60 ∷ 60 ∷ 50 ∷ 124 ∷ 51 ∷ 124 ∷ 124 ∷ 52 ∷ 94 ∷ 53 ∷ 38 ∷ 54 ∷ 38 ∷ 38 ∷ 55 ∷ 61 ∷ 61 ∷ 56 ∷ 33 ∷ 61 ∷ 57 ∷ 60 ∷ 49 ∷ 62 ∷ 50 ∷ 60 ∷ 61 ∷ 51 ∷ 62 ∷ 61 ∷ 52 ∷ 62 ∷ 62 ∷ 53 ∷ 37 ∷ 54 ∷ 36 ∷ [])) ≡ true
unfolding run open_blocks is_accepted
a18 = refl

a19 : is_accepted (reading true (36 ∷ 34 ∷ 92 ∷ 110 ∷ 92 ∷ 116 ∷ 92 ∷ 92 ∷ 92 ∷ 34 ∷ 34 ∷ 36 ∷ [])) ≡ true
unfolding run open_blocks is_accepted
a19 = refl

a20 : is_accepted (reading true (36 ∷ 32 ∷ 97 ∷ 32 ∷ 36 ∷ 32 ∷ 36 ∷ 32 ∷ 98 ∷ 32 ∷ 36 ∷ [])) ≡ true
unfolding run open_blocks is_accepted
a20 = refl
