pub mod AnyCipher
